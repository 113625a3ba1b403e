-- What a coordinator says where an entry is made, appended or read.
use Rattle.std.specs.Prelude.{◌≡◌, ◌⊎◌, ℕ, true, List, Result}
use Rattle.chain_block.specs.declared.entry.Entry.{Entry}
use Rattle.chain_block.specs.declared.entry.Entry.TheVariants.{Genesis, Later}
use Rattle.port.specs.Cause.{Cause}
use Rattle.port.specs.Reply.{Standing}
use Rattle.port.specs.Link.{LinkView}
use Rattle.port.specs.Store.{StoreView}
use Rattle.port.specs.Trace.{Event, Ran}
use Rattle.view_ledger.specs.Views.{ViewChain}
use Rattle.view_ledger.specs.Receipts.{Accepts}
use Rattle.op_entry.specs.Ask.{Ask}
use Rattle.op_parts.specs.Refresh.{HasGrown}
use Rattle.op_entry.specs.Laws.{OwnCalls}
use Rattle.op_entry.specs.Says.{Says}
use Rattle.op_entry.specs.Sound.{Sound, IsAnswered}
use Rattle.op_entry.specs.State.{State, is_live}
use Rattle.coordinator.specs.Calls.{IsUnbegun}
use Rattle.coordinator.specs.Calm.{Calmly, CalmEntry}

-- the first entry of a ledger, and one above it
abbrev pub first_entry : List ℕ → List ℕ → Entry
first_entry nonce payload = Genesis nonce (record { bytes = payload; room = 0 })

abbrev pub later_entry : List ℕ → ℕ → List ℕ → List ℕ → Entry
later_entry handle height nonce payload = Later handle height nonce (record { bytes = payload; room = 0 })

-- The calls are those of the operation, the chain grew by the oldest of them, and this is what they say of the answer. They came to it
-- one after the other, a whole refresh of the chain first, and with the newest one. And what the answer is over a calm service.
pub record EntryServed (accepts : Accepts) (ask : Ask) (from chain : ViewChain) (events : List Event) (answer : Result Standing Cause) : Type 0 where
  pub own : OwnCalls accepts ask chain.configs events
  pub grown : HasGrown accepts from chain events
  pub says : IsUnbegun events answer ⊎ Says accepts ask from chain events answer
  pub came : IsUnbegun events answer ⊎ IsAnswered accepts ask from chain answer events
  pub calm : Calmly accepts from chain events (CalmEntry ask answer)

-- an operation that has not ended has made these calls and no other
abbrev pub Comes : {S L : Type 0} → Accepts → (S → StoreView) → (L → LinkView) → Ask → ViewChain → S → L → State → S → L → Type 0
Comes accepts sv lv ask from s l state s' l' = ((past : List Event) × Ran sv lv s l past s' l' × Sound accepts ask from state past) × (is_live state ≡ true)

-- a whole operation made these calls and no other
abbrev pub EntryRan : {S L : Type 0} → Accepts → (S → StoreView) → (L → LinkView) → Ask → ViewChain → S → L → ViewChain → S → L → Result Standing Cause → Type 0
EntryRan accepts sv lv ask from s l chain s' l' answer = (events : List Event) × Ran sv lv s l events s' l' × EntryServed accepts ask from chain events answer
