-- Which calls a walk has made.
use Rattle.std.specs.Prelude.{◌≡◌, ℕ, List, [], ◌∷◌, Ok}
use Rattle.statement.specs.declared.member.Member.{Member}
use Rattle.port.specs.declared.key.Key.TheVariants as keys
use Rattle.port.specs.Store.{Get, WasGot}
use Rattle.port.specs.Trace.{Event, AtStore}
use Rattle.view_ledger.specs.Receipts.{Accepts}
use Rattle.op_parts.specs.declared.walk.WalkProgress.TheVariants.{More}
use Rattle.op_parts.specs.Walk.{Place, Says}

-- By these calls, the newest first, and no other, a walk has come from one place to another: each gave the next row, to which
-- no accepted receipt is attached.
abbrev pub Walked : Accepts → List (List Member) → List ℕ → Place → List Event → Place → Type 0
Walked accepts configs handle from [] place = place ≡ from
Walked accepts configs handle from (AtStore (Get key) (WasGot got) ∷ past) place =
    (before : Place) × Walked accepts configs handle from past before × (key ≡ keys.Row handle before.height)
    × Says accepts configs handle before got place (Ok More)
Walked accepts configs handle from (event ∷ past) place = ⊥
