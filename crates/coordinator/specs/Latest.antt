-- What a coordinator says where the newest entry of a ledger is read.
use Rattle.std.specs.Prelude.{◌≡◌, true, List, Result}
use Rattle.port.specs.Cause.{Cause}
use Rattle.port.specs.Reply.{LatestReply}
use Rattle.port.specs.Link.{LinkView}
use Rattle.port.specs.Store.{StoreView}
use Rattle.port.specs.Trace.{Event, Ran}
use Rattle.view_ledger.specs.Views.{ViewChain}
use Rattle.view_ledger.specs.Receipts.{Accepts}
use Rattle.op_parts.specs.Refresh.{HasGrown}
use Rattle.op_latest.specs.LatestAsked.{LatestAsk, asking_of}
use Rattle.op_latest.specs.LatestOwn.{OwnCalls}
use Rattle.op_latest.specs.LatestSays.{LatestSays}
use Rattle.op_latest.specs.LatestSound.{LatestSound, AtStage}
use Rattle.op_latest.specs.LatestState.{State, Ended, is_live}
use Rattle.calm.specs.Calls.{CalmLatest}
use Rattle.coordinator.specs.Calm.{Calmly}

-- The calls are those of the read, the chain grew by the oldest of them, and this is what they say of the answer. They came to it one
-- after the other, a whole refresh of the chain first, and with the newest one. And what the answer is over a calm service.
pub record LatestServed (accepts : Accepts) (ask : LatestAsk) (from chain : ViewChain) (events : List Event) (answer : Result LatestReply Cause) : Type 0 where
  pub own : OwnCalls accepts (asking_of ask chain) events
  pub grown : HasGrown accepts from chain events
  pub says : LatestSays accepts ask chain events answer
  pub came : AtStage accepts ask from chain (Ended answer) events
  pub calm : Calmly accepts from chain events (λ service later. CalmLatest service ask.handle ask.nonce answer later)

-- a read that has not ended has made these calls and no other
abbrev pub Comes : {S L : Type 0} → Accepts → (S → StoreView) → (L → LinkView) → LatestAsk → ViewChain → S → L → State → S → L → Type 0
Comes accepts sv lv ask from s l state s' l' = ((past : List Event) × Ran sv lv s l past s' l' × LatestSound accepts ask from state past) × (is_live state ≡ true)

-- a whole read made these calls and no other
abbrev pub LatestRan : {S L : Type 0} → Accepts → (S → StoreView) → (L → LinkView) → LatestAsk → ViewChain → S → L → ViewChain → S → L → Result LatestReply Cause → Type 0
LatestRan accepts sv lv ask from s l chain s' l' answer = (events : List Event) × Ran sv lv s l events s' l' × LatestServed accepts ask from chain events answer
