-- The refusal where every member's map is full.
use Rattle.std.proofs.Common.{◌≡◌, ℕ, ◌<◌, ◌≤◌, List, [], ◌∷◌, length, map, take, Option, None, refl, sym, subst, ap, ◌∙◌, arith}
use Rattle.std.proofs.Math.Seq.{take-length}
use Rattle.std.proofs.lemmas.List.{length-map}
use Rattle.std.specs.Option.{option_map, option_or}
use Rattle.std.specs.Prelude.{unwrap_or}
use Rattle.statement.specs.declared.member.Member.{Member}
use Rattle.statement.specs.Config.{ids, id_of as member_id, quorum, weight_together}
use Rattle.statement.specs.Mark.{Content as Mark, id_of}
use Rattle.port.specs.Cause.{MemberCause, Cause, NoQuorum, Full}
use Rattle.op_parts.specs.declared.round_refusal.Contention.{Contention}
use Rattle.op_parts.specs.RoundRefusal.{first_given, moved, full, contended, cause_without_quorum}
use Rattle.calm.specs.Appending.{IsRefusedByFirst}
use Rattle.calm.proofs.RoundEnds.{full_of}

none_moved : (from : ℕ) (blamed : List ℕ) → first_given (moved from) (map full_of blamed) ≡ None
none_moved from [] = refl
none_moved from (id ∷ blamed) = none_moved from blamed

-- the first of some members that all have full maps
pub by_first : (members : List Member) (from need : ℕ) (higher : Option Contention) → 1 ≤ length members → IsRefusedByFirst members (cause_without_quorum from need higher (map full_of (ids members)))
by_first [] from need higher some = absurd (omega arith)
by_first (member ∷ members) from need higher some = (member, refl, is)
  where
    is : cause_without_quorum from need higher (map full_of (ids (member ∷ members))) ≡ Full member.id
    is = ap (λ (o : Option Cause). unwrap_or (option_or o (option_or (first_given full (map full_of (ids (member ∷ members)))) (option_map contended higher))) (NoQuorum need (map full_of (ids (member ∷ members))))) (none_moved from (ids (member ∷ members)))

pub all_ids : (members : List Member) (asked : ℕ) → asked ≡ length members → take asked (ids members) ≡ ids members
all_ids members asked all = ap (λ (n : ℕ). take n (ids members)) (all ∙ sym (length-map members member_id)) ∙ take-length (ids members)

pub refused : (members : List Member) (asked from : ℕ) (higher : Option Contention) (reasons : List (ℕ × MemberCause)) → 1 ≤ length members → asked ≡ length members
    → reasons ≡ map full_of (take asked (ids members)) → IsRefusedByFirst members (cause_without_quorum from (quorum members) higher reasons)
refused members asked from higher reasons some all is =
    subst (λ (r : List (ℕ × MemberCause)). IsRefusedByFirst members (cause_without_quorum from (quorum members) higher r)) (sym (is ∙ ap (map full_of) (all_ids members asked all)))
    (by_first members from (quorum members) higher some)

-- no marks are no quorum
pub no_marks : (members : List Member) (marks : List Mark) → marks ≡ [] → weight_together members (map id_of marks) < quorum members
no_marks members marks none = subst (λ (m : List Mark). weight_together members (map id_of m) < quorum members) (sym none) (omega arith)
