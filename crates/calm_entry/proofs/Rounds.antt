-- A round over the members of a calm service in which all were asked.
use Rattle.std.proofs.Common.{◌≡◌, inl, inr, ℕ, zero, suc, ◌<◌, List, [], ◌∷◌, ◌++◌, length, map, slice_get, Some, None, refl, sym, subst, ap, ◌∙◌, arith}
use Rattle.std.specs.Prelude.{◌^◌}
use Rattle.std.specs.List.{AllByRecursion}
use Rattle.std.proofs.lemmas.Option.{slice_get_past}
use Rattle.statement.specs.declared.member.Member.{Member}
use Rattle.statement.specs.Config.{IsConfig, IsMember as IsWellFormed}
use Rattle.statement.specs.Mark.{Content as Mark}
use Rattle.port.specs.Answer.{Full}
use Rattle.port.specs.Cause.{MemberCause, Denied}
use Rattle.port.specs.Trace.{Event}
use Rattle.view_ledger.specs.Receipts.{Accepts}
use Rattle.op_parts.specs.declared.round_stage.Stage.{Stage}
use Rattle.op_parts.specs.declared.round_stage.Stage.TheVariants.{First, CatchUp, Again, Ended}
use Rattle.op_parts.specs.RoundAsking.{Asking}
use Rattle.op_parts.specs.RoundLaws.{IsMarkShown}
use Rattle.op_parts.specs.RoundRefusal.{first_given, above}
use Rattle.op_parts.specs.RoundSound.{IsMember, AreAsked, AtStage, Sound}
use Rattle.op_parts.specs.RoundState.{State}

no_member : (ask : Asking) (n : ℕ) (member : Member) → n ≡ length ask.members → IsMember ask n member → ⊥
no_member ask n member all is =
    let none = slice_get_past ask.members n (omega (arith, all)) in
    absurd (cc)

-- then no call is left over
no_calls : (ask : Asking) (n : ℕ) (stage : Stage) (calls : List Event) → n ≡ length ask.members → AtStage ask n stage calls → calls ≡ []
no_calls ask n First calls all at = at
no_calls ask n (CatchUp catch_up) calls all at = absurd (no_member ask n at.0 all at.3)
no_calls ask n Again calls all at = absurd (no_member ask n at.0 all at.3)
no_calls ask n Ended calls all (inl none) = none
no_calls ask n Ended calls all (inr at) = absurd (no_member ask n at.0 all at.1)

pub all_asked : (accepts : Accepts) (ask : Asking) (state : State) (past : List Event) → Sound accepts ask state past → state.asked ≡ length ask.members
    → AreAsked accepts ask state.asked state.marks state.reasons past
all_asked accepts ask state past sound all =
    let none = no_calls ask state.asked state.stage sound.calls all sound.at in
    let is : past ≡ sound.before = sound.split ∙ ap (λ (c : List Event). c ++ sound.before) none in
    subst (AreAsked accepts ask state.asked state.marks state.reasons) (sym is) sound.asked

none_above : (height : ℕ) (members : List ℕ) → first_given (above height) (map (λ id. (id, Denied Full)) members) ≡ None
none_above height [] = refl
none_above height (id ∷ members) = none_above height members

-- members whose maps are full have told no count
pub full_tell_nothing : (height : ℕ) (members : List ℕ) (reasons : List (ℕ × MemberCause)) → reasons ≡ map (λ id. (id, Denied Full)) members → first_given (above height) reasons ≡ None
full_tell_nothing height members reasons is = ap (first_given (above height)) is ∙ none_above height members

one_of : {X : Type 0} (P : X → Type 0) (xs : List X) (n : ℕ) (x : X) → AllByRecursion P xs → slice_get xs n ≡ Some x → P x
one_of P [] n x all is = absurd (cc is)
one_of P (first ∷ xs) zero x all is = let same : first ≡ x = cc is in subst P same all.0
one_of P (first ∷ xs) (suc n) x all is = one_of P xs n x all.1 is

all_more : {X : Type 0} (P Q : X → Type 0) → ((x : X) → P x → Q x) → (xs : List X) → AllByRecursion P xs → AllByRecursion Q xs
all_more P Q more [] all = tt
all_more P Q more (x ∷ xs) all = (more x all.0, all_more P Q more xs all.1)

-- the ids of marks are members'
pub ids_fit : (accepts : Accepts) (ask : Asking) (past : List Event) (marks : List Mark) → IsConfig ask.members → AllByRecursion (IsMarkShown accepts ask past) marks
    → AllByRecursion (λ mark. mark.id < 2 ^ 32) marks
ids_fit accepts ask past marks config shown =
    all_more (IsMarkShown accepts ask past) (λ mark. mark.id < 2 ^ 32) one marks shown
  where
    one : (mark : Mark) → IsMarkShown accepts ask past mark → mark.id < 2 ^ 32
    one mark is =
        let low = (one_of IsWellFormed ask.members is.0 is.1 config.each is.2).id in
        let same : mark.id ≡ is.1.id = is.3 in
        omega (arith, low, same)
