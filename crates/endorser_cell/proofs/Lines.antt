-- A list of lines that grows by one.
use Rattle.std.proofs.Common.{◌≡◌, ℕ, Bool, List, [], ◌∷◌, ◌++◌, refl, sym, ap, subst, ◌∙◌}
use Rattle.statement.specs.declared.member.Member.{Member}
use Rattle.port.specs.Table.{State}
use Rattle.endorser_core.specs.Endorser.{Endorser, me}
use Rattle.endorser_core.specs.Line.{Line, IsLawful, IsLawfulAt, replay, state_after}
use Rattle.endorser_cell.specs.EndorserCell.{IsLawfulOf, LeadsTo, stamps_of}

pub stamps_push : (lines : List Line) (line : Line) → stamps_of (lines ++ line ∷ []) ≡ stamps_of lines ++ line.stamp ∷ []
stamps_push [] line = refl
stamps_push (first ∷ lines) line = ap (λ (stamps : List ℕ). first.stamp ∷ stamps) (stamps_push lines line)

-- what `lines_go_on` of endorser_core says
abbrev pub LawfulLaw : Type 0
LawfulLaw = (accepts : List ℕ → List ℕ → List ℕ → Bool) (me : Member) (lines : List Line) (line : Line)
    → IsLawful accepts me lines → IsLawfulAt accepts me (replay me lines) line → IsLawful accepts me (lines ++ line ∷ [])

abbrev pub ReplayedLaw : Type 0
ReplayedLaw = (me : Member) (lines : List Line) (line : Line) → replay me (lines ++ line ∷ []) ≡ state_after me (replay me lines) line

-- the endorser is the same member
pub same_me : {S C : Type 0} (key : S → List ℕ) (old new : Endorser S C) → new.id ≡ old.id → key new.signer ≡ key old.signer → me key new ≡ me key old
same_me key old new ids keys = λ k. record { id = ids k; key = keys k }

pub lawful_push : {S C : Type 0} (key : S → List ℕ) (accepts : C → List ℕ → List ℕ → List ℕ → Bool) (old new : Endorser S C) (lines : List Line) (line : Line)
    → LawfulLaw → me key new ≡ me key old → new.checker ≡ old.checker → IsLawfulOf key accepts old lines → LeadsTo key lines old
    → IsLawfulAt (accepts old.checker) (me key old) old.state line → IsLawfulOf key accepts new (lines ++ line ∷ [])
lawful_push {S} {C} key accepts old new lines line law same checker lawful leads next =
    subst (λ (c : C). IsLawful (accepts c) (me key new) (lines ++ line ∷ [])) (sym checker)
    (subst (λ (m : Member). IsLawful (accepts old.checker) m (lines ++ line ∷ [])) (sym same)
    (law (accepts old.checker) (me key old) lines line lawful (subst (λ (s : State). IsLawfulAt (accepts old.checker) (me key old) s line) (sym leads) next)))

pub leads_push : {S C : Type 0} (key : S → List ℕ) (old new : Endorser S C) (lines : List Line) (line : Line)
    → ReplayedLaw → me key new ≡ me key old → LeadsTo key lines old → state_after (me key old) old.state line ≡ new.state → LeadsTo key (lines ++ line ∷ []) new
leads_push key old new lines line law same leads next =
    ap (λ (m : Member). replay m (lines ++ line ∷ [])) same ∙ law (me key old) lines line ∙ ap (λ (s : State). state_after (me key old) s line) leads ∙ next
