-- What members weigh.
use Rattle.std.proofs.Common.{ℕ, ◌≤◌, List, [], ◌∷◌, eqb, inl, inr, arith}
use Rattle.std.specs.Prelude.{unwrap_or}
use Rattle.std.proofs.lemmas.Bool.{cases_Bool}
use Rattle.statement.specs.declared.member.Member.{Member}
use Rattle.statement.specs.Config.{weight_of}

pub weight_small : (members : List Member) (id : ℕ) → unwrap_or (weight_of members id) 0 ≤ 1
weight_small [] id = omega arith
weight_small (member ∷ members) id =
    elim (cases_Bool (eqb member.id id)) [
      | inl same ↦ rw same (omega arith)
      | inr other ↦ rw other (weight_small members id)
    ]
