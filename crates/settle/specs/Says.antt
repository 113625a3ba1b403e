-- What a settling says of its calls.
use Rattle.std.specs.Prelude.{◌≡◌, ◌≢◌, ◌⊎◌, ℕ, ◌+◌, ◌-◌, ◌<◌, List, [], ◌∷◌, ◌++◌, length, slice_get, Some, None, IsSome}
use Rattle.std.specs.List.{AllByRecursion}
use Rattle.chain_block.specs.declared.meta_block.MetaBlock.{MetaBlock}
use Rattle.chain_block.specs.Links.{Links}
use Rattle.statement.specs.declared.member.Member.{Member}
use Rattle.statement.specs.Config.{quorum}
use Rattle.statement.specs.Receipt.{Receipt, receipt_bytes}
use Rattle.port.specs.declared.store_answers.Got.{Got}
use Rattle.port.specs.declared.store_answers.Got.TheVariants as gots
use Rattle.port.specs.declared.store_answers.Attached.{Attached}
use Rattle.port.specs.declared.store_answers.Attached.TheVariants as attaches
use Rattle.port.specs.Answer.{Refused, HasEnded as EndedView, Stands, Full as MapFull}
use Rattle.port.specs.Cause.{MemberCause, Cause, NoQuorum, ViewMoved, Contended, Full, HadAnswer, IsMemberShown}
use Rattle.port.specs.GoodRow.{IsGoodRow}
use Rattle.port.specs.Row.{Content}
use Rattle.port.specs.Stored.{Stored}
use Rattle.port.specs.Trace.{Event, Had}
use Rattle.catch_up.specs.Told.{told}
use Rattle.catch_up.specs.Says.{IsRowRefused}
use Rattle.view_ledger.specs.Receipts.{Accepts}
use Rattle.view_ledger.specs.Views.{newest_config}
use Rattle.op_parts.specs.Attachment.{IsReceiptFor}
use Rattle.op_parts.specs.RoundLaws.{IsMarkShown}
use Rattle.op_parts.specs.RoundRefusal.{first_given, above, cause_without_quorum}
use Rattle.op_parts.specs.RoundState.{State as Round}
use Rattle.op_parts.specs.Walk.{Place, block_tail, IsRefused as IsWalkRefused}
use Rattle.settle.specs.Settling.{Settling, members_of, asking, start, last_block, top_block}
use Rattle.settle.specs.Sound.{HasFailed, HasWalked, HasLooked, HasAttached, got_at, IsBefore, IsAsking}

-- in one of these calls the store gave the good row with this metablock
abbrev pub IsRowGiven : Settling → List Event → MetaBlock → Type 0
IsRowGiven settling past block =
    (stored : Stored) × (row : Content) × Had past (got_at settling block.height (gots.Some stored))
    × IsGoodRow settling.handle block.height stored.body row × (block ≡ row.metablock)

-- in one of these calls the store gave the good row with this metablock, to which this receipt was attached
abbrev pub IsReceiptGiven : Settling → List Event → MetaBlock → Receipt → Type 0
IsReceiptGiven settling past block receipt =
    (stored : Stored) × (row : Content) × Had past (got_at settling block.height (gots.Some stored))
    × IsGoodRow settling.handle block.height stored.body row × (block ≡ row.metablock) × (stored.attached ≡ Some (receipt_bytes receipt))

-- The newest call attached the receipt to the row at the top, to which these metablocks lead, and the store didn't want memory; or in
-- the walk it gave a row.
abbrev pub IsLastSettled : Accepts → Settling → List Event → List MetaBlock → Receipt → Type 0
IsLastSettled accepts settling past chain receipt =
    ((place : Place) × (attached : Attached) × (chain ≡ place.blocks) × (attached ≢ attaches.NoMemory) × HasAttached accepts settling receipt place attached past)
    ⊎ ((causes : List (ℕ × MemberCause)) × (place : Place) × (stored : Stored) × HasLooked accepts settling causes place (gots.Some stored) past)

-- The row has this receipt, by way of the metablocks above it up to the row for which the receipt is.
pub record IsSettled (accepts : Accepts) (settling : Settling) (past : List Event) (chain : List MetaBlock) (receipt : Receipt) : Type 0 where
  pub tail : List ℕ
  pub links : Links chain (block_tail settling.block) (settling.block.height + 1) tail
  pub rows : AllByRecursion (IsRowGiven settling past) chain
  pub accepted : IsReceiptFor accepts settling.configs (record { handle = settling.handle; tail = tail; count = settling.block.height + 1 + length chain }) receipt
  -- the store gave it, or each of its marks is a member's answer
  pub shown : IsReceiptGiven settling past (last_block settling.block chain) receipt
      ⊎ AllByRecursion (IsMarkShown accepts (asking settling (last_block settling.block chain)) past) receipt.marks
  pub last : IsLastSettled accepts settling past chain receipt

-- In a round over the row at the top the newest call refused a row below it, at the height that a member had told last.
abbrev pub IsRefusedInRound : Accepts → Settling → List Event → Cause → Type 0
IsRefusedInRound accepts settling [] cause = ⊥
IsRefusedInRound accepts settling (event ∷ past) cause =
    (round : Round) × (place : Place) × (asked : IsAsking accepts settling round place past) × (id : ℕ)
    × (told id 0 asked.calls < (top_block settling place).height) × IsRowRefused settling.handle (told id 0 asked.calls) event cause

-- In the walk the newest call refused the row at the place to which it had come.
abbrev pub IsRefusedInWalk : Accepts → Settling → List Event → Cause → Type 0
IsRefusedInWalk accepts settling [] cause = ⊥
IsRefusedInWalk accepts settling (event ∷ past) cause =
    (causes : List (ℕ × MemberCause)) × (place : Place) × (got : Got) × HasWalked accepts settling causes place past
    × (event ≡ got_at settling place.height got) × IsWalkRefused settling.handle place got cause

-- The newest call ended the round by which it is refused: at the row, where no member had come further, or at the top above it.
-- Or it looked for the row above in vain, since a member had come further.
abbrev pub IsLast : Settling → Place → List (ℕ × MemberCause) → List Event → List Event → Type 0
IsLast settling place causes asked past =
    ((past ≡ asked) × (place.blocks ≡ [] → first_given (above place.height) causes ≡ None))
    ⊎ ((past ≡ got_at settling place.height gots.None ∷ asked) × (place ≡ start settling) × IsSome (first_given (above place.height) causes))

-- In the round over the row at the top all were asked; the marks are too few, for these reasons.
pub record HasNoQuorum (accepts : Accepts) (settling : Settling) (place : Place) (causes : List (ℕ × MemberCause)) (past : List Event) : Type 0 where
  pub calls : List Event
  pub before : List Event
  pub failed : HasFailed accepts settling (top_block settling place) causes calls
  pub began : IsBefore accepts settling place before
  pub last : IsLast settling place causes (calls ++ before) past

-- The cause under the newest of these views, where this count was called for: a view that has ended comes before a map that is full,
-- this before a member that has come further, and this before too few members.
abbrev pub cause_at : List (List Member) → ℕ → List (ℕ × MemberCause) → Cause
cause_at configs count causes =
    cause_without_quorum (length configs - 1) (quorum (newest_config configs)) (first_given (above count) causes) causes

-- this is the id of a member of the newest view
abbrev pub IsNewestMember : Settling → ℕ → Type 0
IsNewestMember settling id = (n : ℕ) × (member : Member) × (slice_get (members_of settling) n ≡ Some member) × (id ≡ member.id)

-- What such a cause says of the calls: a member of the newest view answered so; the store gave no row at the count that was called
-- for, and the member told a greater one; all members but those with a reason are no quorum, and none told a greater count.
abbrev pub Tells : Settling → Place → List (ℕ × MemberCause) → List Event → Cause → Type 0
Tells settling place causes past (ViewMoved from id statement sig) =
    (from + 1 ≡ length settling.configs) × IsNewestMember settling id × HadAnswer past id (Refused (EndedView statement sig))
Tells settling place causes past (Full id) = IsNewestMember settling id × HadAnswer past id (Refused MapFull)
Tells settling place causes past (Contended id first later) =
    (first ≡ place.height) × Had past (got_at settling first gots.None) × (first < later) × IsNewestMember settling id
    × ((tail : List ℕ) × HadAnswer past id (Refused (Stands later tail)))
Tells settling place causes past (NoQuorum need reasons) =
    (reasons ≡ causes) × (need ≡ quorum (members_of settling)) × (length (members_of settling) < length reasons + need)
    × AllByRecursion (λ (r : ℕ × MemberCause). IsMemberShown past r.0 r.1) reasons × (first_given (above place.height) reasons ≡ None)
Tells settling place causes past cause = ⊥

-- no quorum stands for the row at the top, for this cause
abbrev pub IsUnsettled : Accepts → Settling → List Event → Cause → Type 0
IsUnsettled accepts settling past cause =
    (place : Place) × (causes : List (ℕ × MemberCause)) × HasNoQuorum accepts settling place causes past
    × (cause ≡ cause_at settling.configs place.height causes) × Tells settling place causes past cause

-- why a settling was refused: for a row below the top, for a row above, or for want of a quorum
abbrev pub IsRefused : Accepts → Settling → List Event → Cause → Type 0
IsRefused accepts settling past cause =
    IsRefusedInRound accepts settling past cause ⊎ (IsRefusedInWalk accepts settling past cause ⊎ IsUnsettled accepts settling past cause)
