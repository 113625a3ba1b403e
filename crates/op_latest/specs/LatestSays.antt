-- What the answer of a latest read says of its calls.
use Rattle.std.specs.Prelude.{◌≡◌, ◌⊎◌, ℕ, ◌+◌, ◌-◌, ◌<◌, false, true, List, [], ◌∷◌, ◌++◌, length, Some, None, Option, Result, Ok, Err}
use Rattle.std.specs.List.{AllByRecursion}
use Rattle.statement.specs.declared.member.Member.{Member}
use Rattle.statement.specs.declared.view_block.ViewBlock.{ViewBlock}
use Rattle.statement.specs.Config.{quorum}
use Rattle.statement.specs.Mark.{Content as Mark}
use Rattle.statement.specs.Receipt.{Receipt}
use Rattle.port.specs.declared.key.Key.{Key}
use Rattle.port.specs.declared.key.Key.TheVariants as keys
use Rattle.port.specs.declared.store_answers.Got.TheVariants as gots
use Rattle.port.specs.Answer.{Answer, Signed, Refused, HasEnded, Full as MapFull}
use Rattle.port.specs.Cause.{Cause, Gap, NoQuorum, ViewMoved, StoreFault, BadRow, Contended, Full, NoMemory, MemberCause, HadAnswer, TellsCount, IsMemberShown}
use Rattle.port.specs.GoodRow.{IsBadRow}
use Rattle.port.specs.Heard.{Answered}
use Rattle.port.specs.Reply.{LatestReply}
use Rattle.port.specs.Row.{Content}
use Rattle.port.specs.Store.{StoreCall, StoreAnswer, Get, WasGot, is_failed}
use Rattle.port.specs.Stored.{Stored}
use Rattle.port.specs.Trace.{Event, AtStore, Had}
use Rattle.catch_up.specs.Told.{told}
use Rattle.view_ledger.specs.Views.{ViewChain}
use Rattle.view_ledger.specs.Receipts.{Accepts, IsAccepted}
use Rattle.op_parts.specs.Refresh.{GaveView, ReadsAsView, Grew}
use Rattle.op_parts.specs.RefreshSays.{GaveNoView, IsRefusedAtView, IsRefusedAtFinals}
use Rattle.op_parts.specs.RoundRefusal.{cause_without_quorum}
use Rattle.op_latest.specs.declared.latest_head.LatestHead.{LatestHead}
use Rattle.op_latest.specs.LatestAsked.{LatestAsk, Asking, asking_of, IsMember, latest_to, AreBoth, AreDone, IsUndecided}
use Rattle.op_latest.specs.LatestJudged.{latest, IsHead}
use Rattle.op_latest.specs.LatestRow.{IsRowOf, IsNoRowOf}
use Rattle.op_latest.specs.LatestSteps.{receipt_of}
use Rattle.op_latest.specs.LatestVote.{MemberVote, has_quorum, first_above, reasons_of}

-- by these calls the chain grew from one to the other, and the newest of them found no further view
abbrev pub IsFresh : Accepts → ViewChain → ViewChain → List Event → Type 0
IsFresh accepts from chain [] = ⊥
IsFresh accepts from chain (event ∷ past) = Grew accepts from past chain × GaveNoView (length chain.configs) event

-- after such calls these were made
pub record IsAfter (accepts : Accepts) (from chain : ViewChain) (past calls : List Event) : Type 0 where
  pub fresh : List Event
  pub split : past ≡ calls ++ fresh
  pub refreshed : IsFresh accepts from chain fresh

-- the id of a member that is asked
abbrev pub IsIdIn : Asking → ℕ → Type 0
IsIdIn ask id = (place : ℕ) × (member : Member) × IsMember ask place member × (id ≡ member.id)

-- A receipt over the head with the nonce, which the view accepts; each of its marks is a member's answer in these calls.
pub record IsReceipted (accepts : Accepts) (ask : Asking) (past : List Event) (head : LatestHead) (receipt : Receipt) : Type 0 where
  pub states : receipt.statement ≡ latest ask.claim head.tail head.count
  pub accepted : IsAccepted accepts ask.members ask.claim.view receipt
  pub marks : AllByRecursion (λ (mark : Mark). Had past (latest_to ask mark.id (Answered (Signed (latest ask.claim head.tail head.count) mark.sig)))) receipt.marks
  pub head_is : IsHead head.tail head.count

-- The receipt is of the head on which the members were found to agree: one that a quorum told at once, or the target.
pub record IsDecided (accepts : Accepts) (ask : Asking) (past : List Event) (head : LatestHead) (receipt : Receipt) : Type 0 where
  pub votes : List MemberVote
  pub newer : List Event
  pub calls : List Event
  pub older : List Event
  pub split : past ≡ newer ++ (calls ++ older)
  pub done : AreDone accepts ask head votes calls
  pub is : receipt ≡ receipt_of ask.claim head votes

-- in one of these calls the store gave these bytes for the key
abbrev pub WasGiven : List Event → Key → List ℕ → Type 0
WasGiven past key bytes = (stored : Stored) × Had past (AtStore (Get key) (WasGot (gots.Some stored))) × (stored.body ≡ bytes)

-- the row: none where the ledger has no entry, and else the good one below the head, which the store gave
abbrev pub IsNewest : Asking → List Event → LatestHead → Option Content → Type 0
IsNewest ask past head None = head.count ≡ 0
IsNewest ask past head (Some row) =
    (height : ℕ) × (bytes : List ℕ) × (head.count ≡ height + 1) × WasGiven past (keys.Row ask.claim.handle height) bytes × IsRowOf ask.claim.handle head bytes row

abbrev pub IsReply : Accepts → Asking → List Event → LatestReply → Type 0
IsReply accepts ask past reply =
    (head : LatestHead) × IsReceipted accepts ask past head reply.receipt × IsDecided accepts ask past head reply.receipt × IsNewest ask past head reply.row

-- the height that a member told last in these calls of its catch-up, after it had told the first count before them
pub record IsToldHeight (ask : Asking) (past : List Event) (height : ℕ) : Type 0 where
  pub id : ℕ
  pub first : ℕ
  pub newest : Event
  pub turn : List Event
  pub before : List Event
  pub split : past ≡ newest ∷ turn ++ before
  pub member : IsIdIn ask id
  pub answer : Answer
  pub had : HadAnswer before id answer
  pub tells : TellsCount answer first
  pub is : height ≡ told id first turn

-- the height below a head for which there is a receipt
abbrev pub IsBelowHead : Accepts → Asking → List Event → LatestHead → ℕ → Type 0
IsBelowHead accepts ask past head height =
    (receipt : Receipt) × IsReceipted accepts ask past head receipt × IsDecided accepts ask past head receipt × (head.count ≡ height + 1)

-- why a view or what ended the one below was refused, by the newest of these calls
abbrev pub GaveNewest : ViewChain → List ℕ → ViewBlock → List Member → List Event → Type 0
GaveNewest chain body block config [] = ⊥
GaveNewest chain body block config (event ∷ past) = GaveView (length chain.configs) body event × ReadsAsView body (block, config)

abbrev pub IsRefusedInRefresh : Accepts → ViewChain → List Event → Cause → Type 0
IsRefusedInRefresh accepts chain [] cause = ⊥
IsRefusedInRefresh accepts chain (event ∷ past) cause =
    IsRefusedAtView (length chain.configs) event cause
    ⊎ ((body : List ℕ) × (block : ViewBlock) × (config : List Member) × GaveNewest chain body block config past × IsRefusedAtFinals accepts chain body block config event cause)

-- All members were asked, twice where it was to be, and too few told the target's head: this cause follows from their votes.
pub record IsConcluded (accepts : Accepts) (ask : Asking) (views : ℕ) (past : List Event) (cause : Cause) : Type 0 where
  pub head : LatestHead
  pub votes : List MemberVote
  pub calls : List Event
  pub fresh : List Event
  pub split : past ≡ calls ++ fresh
  pub both : AreBoth accepts ask head (length ask.members) votes calls
  pub few : has_quorum ask.members votes head ≡ false
  pub is : cause ≡ cause_without_quorum (views - 1) (quorum ask.members) (first_above head.count votes) (reasons_of head votes)

-- the target's count: the greatest that a member told when it was asked first
abbrev pub IsTargetCount : Accepts → Asking → List Event → ℕ → Type 0
IsTargetCount accepts ask past count =
    (head : LatestHead) × (votes : List MemberVote) × (newer calls older : List Event) × (past ≡ newer ++ (calls ++ older))
    × IsUndecided accepts ask head votes calls × (count ≡ head.count)

-- what shows a refusal's cause in these calls
abbrev pub IsRefused : Accepts → Asking → ViewChain → List Event → Cause → Type 0
IsRefused accepts ask chain past StoreFault = (call : StoreCall) × (answer : StoreAnswer) × Had past (AtStore call answer) × (is_failed answer ≡ true)
IsRefused accepts ask chain past (Gap handle missing) =
    (handle ≡ ask.claim.handle) × Had past (AtStore (Get (keys.Row handle missing)) (WasGot gots.None))
    × (IsToldHeight ask past missing ⊎ ((head : LatestHead) × IsBelowHead accepts ask past head missing))
IsRefused accepts ask chain past (BadRow (keys.Row handle height) (Some bytes)) =
    (handle ≡ ask.claim.handle) × WasGiven past (keys.Row handle height) bytes
    × ((IsToldHeight ask past height × IsBadRow handle height bytes) ⊎ ((head : LatestHead) × IsBelowHead accepts ask past head height × IsNoRowOf handle head bytes))
IsRefused accepts ask chain past (BadRow (keys.Row handle height) None) = ⊥
IsRefused accepts ask chain past (BadRow key bytes) = IsRefusedInRefresh accepts chain past (BadRow key bytes)
IsRefused accepts ask chain past (ViewMoved from id statement sig) =
    IsIdIn ask id × HadAnswer past id (Refused (HasEnded statement sig)) × IsConcluded accepts ask (length chain.configs) past (ViewMoved from id statement sig)
    × (from ≡ length chain.configs - 1)
IsRefused accepts ask chain past (Full id) =
    IsIdIn ask id × HadAnswer past id (Refused MapFull) × IsConcluded accepts ask (length chain.configs) past (Full id)
IsRefused accepts ask chain past (Contended id first later) =
    IsIdIn ask id × (first < later) × IsTargetCount accepts ask past first × ((answer : Answer) × HadAnswer past id answer × TellsCount answer later)
    × IsConcluded accepts ask (length chain.configs) past (Contended id first later)
IsRefused accepts ask chain past (NoQuorum need reasons) =
    (need ≡ quorum ask.members) × (length ask.members < length reasons + need)
    × AllByRecursion (λ (r : ℕ × MemberCause). IsIdIn ask r.0 × IsMemberShown past r.0 r.1) reasons
    × IsConcluded accepts ask (length chain.configs) past (NoQuorum need reasons)
IsRefused accepts ask chain past NoMemory = Unit {0}
IsRefused accepts ask chain past cause = ⊥

-- what the answer says
abbrev pub LatestSays : Accepts → LatestAsk → ViewChain → List Event → Result LatestReply Cause → Type 0
LatestSays accepts ask chain past (Ok reply) = IsReply accepts (asking_of ask chain) past reply
LatestSays accepts ask chain past (Err cause) = IsRefused accepts (asking_of ask chain) chain past cause
