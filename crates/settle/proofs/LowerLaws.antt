-- What the parts of a settling promise.
use Rattle.std.proofs.Common.{◌≡◌, ℕ, ◌+◌, ◌<◌, ◌≤◌, true, List, [], length, map, take}
use Rattle.std.specs.List.{AllByRecursion}
use Rattle.chain_block.specs.Links.{Links}
use Rattle.seal.specs.Signature.{IsSize}
use Rattle.statement.specs.declared.member.Member.{Member}
use Rattle.statement.specs.Config.{ids, quorum, weight_together, IsConfig}
use Rattle.statement.specs.Mark.{id_of}
use Rattle.port.specs.Cause.{MemberCause, IsMemberShown}
use Rattle.port.specs.Trace.{Event, Had}
use Rattle.view_ledger.specs.Receipts.{Accepts, IsAccepted}
use Rattle.op_parts.specs.RoundAsking.{Asking, claim}
use Rattle.op_parts.specs.RoundLaws.{IsOwnCall, IsMarkShown, AreParted}
use Rattle.op_parts.specs.RoundOutcome.{held}
use Rattle.op_parts.specs.RoundSound.{Sound}
use Rattle.op_parts.specs.RoundState.{State}
use Rattle.op_parts.specs.Walk.{Place}
use Rattle.op_parts.specs.WalkSound.{Walked}

abbrev pub reason_id : ℕ × MemberCause → ℕ
reason_id reason = reason.0

-- the laws of rounds and of walks
pub record Laws : Type 0 where
  pub marks : (accepts : Accepts) (ask : Asking) (state : State) (past : List Event) → Sound accepts ask state past
      → AllByRecursion (IsMarkShown accepts ask past) state.marks
  pub reasons : (accepts : Accepts) (ask : Asking) (state : State) (past : List Event) → Sound accepts ask state past
      → AllByRecursion (λ (r : ℕ × MemberCause). IsMemberShown past r.0 r.1) state.reasons
  pub each : (accepts : Accepts) (ask : Asking) (state : State) (past : List Event) → Sound accepts ask state past
      → AreParted (take state.asked (ids ask.members)) (map id_of state.marks) (map reason_id state.reasons)
  pub few : (accepts : Accepts) (ask : Asking) (state : State) (past : List Event) → Sound accepts ask state past
      → state.asked ≡ length ask.members → weight_together ask.members (map id_of state.marks) < quorum ask.members
      → length ask.members < length state.reasons + quorum ask.members
  pub accepted : (accepts : Accepts) (ask : Asking) (state : State) (past : List Event) → Sound accepts ask state past
      → IsConfig ask.members → state.asked ≡ length ask.members → quorum ask.members ≤ weight_together ask.members (map id_of state.marks)
      → IsAccepted accepts ask.members ask.view (record { statement = held (claim ask); marks = state.marks })
  pub own : (accepts : Accepts) (ask : Asking) (state : State) (past : List Event) → Sound accepts ask state past
      → (event : Event) → Had past event → IsOwnCall ask past event
  pub heights : (accepts : Accepts) (configs : List (List Member)) (handle : List ℕ) (from to : Place) (events : List Event)
      → from.blocks ≡ [] → Walked accepts configs handle from events to → to.height ≡ from.height + length to.blocks
  pub links : (accepts : Accepts) (configs : List (List Member)) (handle : List ℕ) (from to : Place) (events : List Event)
      → from.blocks ≡ [] → Walked accepts configs handle from events to → Links to.blocks from.tail from.height to.tail

-- a checker accepts signatures of the right sizes alone
abbrev pub Limits : Accepts → Type 0
Limits accepts = (key bytes sig : List ℕ) → accepts key bytes sig ≡ true → IsSize (length sig)
