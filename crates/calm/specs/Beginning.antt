-- How the members of view 0 begin.
use Rattle.std.specs.Prelude.{◌≡◌, ◌≢◌, ℕ, ◌≤◌, List, [], ◌∷◌, None, Some}
use Rattle.sha2.specs.Sha256.{sha256}
use Rattle.tail_map.specs.MapForm.{map_bytes}
use Rattle.statement.specs.declared.member.Member.{Member}
use Rattle.port.specs.Answer.{Done}
use Rattle.port.specs.Call.{Call, Initialize, Activate}
use Rattle.port.specs.Heard.{Heard, Answered, NoMemory}
use Rattle.port.specs.Link.{Bank, Told, IsFaithful}
use Rattle.port.specs.Table.{View, State}
use Rattle.view_ledger.specs.Views.{newest_tail, next_block}
use Rattle.calm.specs.Members.{Signs}

-- what a member of view 0 holds of it
abbrev pub first_view : List Member → View
first_view config = record { block = next_block [] config; config = config; first = sha256 (map_bytes []); map = [] }

-- the calls by which it begins
abbrev pub first_call : List Member → Call
first_call config = Initialize (next_block [] config) config []

abbrev pub second_call : List Member → Call
second_call config = Activate (newest_tail (config ∷ [])) None

-- The member's endorser is the member itself, is in this state, and has at least so many stamps and signatures left.
pub record IsInState (bank : Bank) (state : State) (stamps signatures : ℕ) (member : Member) : Type 0 where
  pub told : Told
  pub known : bank member.id ≡ Some told
  pub me : told.me ≡ member
  pub now : told.state ≡ state
  pub stamps_left : stamps ≤ told.stamps
  pub signatures_left : signatures ≤ told.signatures

-- It was asked this and something was heard, over a link that loses nothing; and the endorsers afterwards.
pub record WasCalled (signs : Signs) (bank : Bank) (member : Member) (call : Call) (heard : Heard) (after : Bank) : Type 0 where
  pub went : heard ≢ NoMemory
  pub faithful : IsFaithful signs bank member.id call heard after

-- it has done so and is in this state now, and every other endorser is as it was
pub record HasBegun (bank : Bank) (state : State) (stamps signatures : ℕ) (member : Member) (heard : Heard) (after : Bank) : Type 0 where
  pub done : heard ≡ Answered Done
  pub in_state : IsInState after state stamps signatures member
  pub others : (id : ℕ) → id ≢ member.id → after id ≡ bank id
