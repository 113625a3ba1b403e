-- The receipts of what operations answer have marks that were signed.
use Rattle.std.proofs.Common.{◌≡◌, ◌⊎◌, inl, inr, ℕ, ◌+◌, ◌^◌, ◌<◌, List, [], ◌∷◌, ◌++◌, length, Option, Some, None, Result, Ok, Err, refl, sym, ap, subst, ◌∙◌, arith}
use Rattle.std.specs.List.{AllByRecursion}
use Rattle.chain_block.specs.declared.meta_block.MetaBlock.{MetaBlock}
use Rattle.chain_block.specs.Entry.{handle_of}
use Rattle.chain_block.specs.Links.{Links}
use Rattle.statement.specs.declared.member.Member.{Member}
use Rattle.statement.specs.declared.statement.Statement.{Statement}
use Rattle.statement.specs.Mark.{Content as Mark}
use Rattle.statement.specs.Receipt.{Receipt, receipt_bytes}
use Rattle.port.specs.declared.store_answers.Got.TheVariants as gots
use Rattle.port.specs.Answer.{Signed}
use Rattle.port.specs.Cause.{Cause, Conflict, Gap, NoQuorum, ViewMoved, StoreFault, BadRow, Contended, Full, TooFar, Reused, NoMemory}
use Rattle.port.specs.Heard.{Answered}
use Rattle.port.specs.Link.{Served}
use Rattle.port.specs.Reply.{LatestReply, Standing}
use Rattle.port.specs.Stored.{Stored}
use Rattle.port.specs.Trace.{Event, Had}
use Rattle.view_ledger.specs.Receipts.{Accepts}
use Rattle.view_ledger.specs.Views.{ViewChain}
use Rattle.op_parts.specs.declared.attachment.Head.{Head}
use Rattle.op_parts.specs.Attachment.{IsAttached, IsReceiptFor}
use Rattle.op_parts.specs.RoundLaws.{IsMarkShown}
use Rattle.op_parts.specs.RefreshState.{RefreshState, AtView, AtFinals, AtEnd}
use Rattle.op_parts.specs.Walk.{block_tail}
use Rattle.settle.specs.Says.{IsReceiptGiven, IsSettled, IsRefused as IsSettleRefused, IsRefusedInRound}
use Rattle.settle.specs.Sound.{got_at}
use Rattle.settle.specs.Settling.{Settling, asking, last_block}
use Rattle.op_entry.specs.declared.found.Found.{Found}
use Rattle.op_entry.specs.Ask.{AppendEntry, Ask, NewLedger, ReadAt}
use Rattle.op_entry.specs.Refusal.{IsRefreshRefused}
use Rattle.op_entry.specs.Sound.{GaveRow, IsAnswered, IsReceipted, Stands, WasBelowRefused, WasRefused, WasRowRefused}
use Rattle.op_entry.specs.Standing.{head_of, settling_of}
use Rattle.op_latest.specs.LatestAsked.{LatestAsk, asking_of, latest_to}
use Rattle.op_latest.specs.LatestJudged.{latest}
use Rattle.op_latest.specs.LatestSays.{LatestSays}
use Rattle.script_runs.specs.SignedMarks.{AreSigned, WasSigned}
use Rattle.script_runs.proofs.AttachedReceipts.{AllGotHeard, AreHeard, IsGotHeard, IsOfReceipt, MayHave}
use Rattle.script_runs.proofs.KeptCalls.{all_had, all_lift, had_left}
use Rattle.script_runs.proofs.OneState.{alone}
use Rattle.script_runs.proofs.OwnAttaches.{HaveIds, Limits, View, good_handle, good_height, head_after, plain_after, shown_signed}
use Rattle.script_runs.proofs.ReceiptForms.{IsPlain, same_receipt}
use Rattle.script_runs.proofs.SignedCalls.{AllLinkHeard, was_heard}

-- ---- a conflict is no refusal

module _ (accepts : Accepts) (from chain : ViewChain) (standing : Standing) (past : List Event) where
  refresh_apart : (refresh : RefreshState) (event : Event) → IsRefreshRefused accepts chain refresh event (Conflict standing) → ⊥
  refresh_apart AtView event refused = refused
  refresh_apart (AtFinals body block config) event refused = refused
  refresh_apart AtEnd event refused = refused

  below_apart : (ask : Ask) → WasBelowRefused accepts ask from chain (Conflict standing) past → ⊥
  below_apart (NewLedger entry) refused = refused
  below_apart (AppendEntry entry) (got, before, is, refreshed, none) = none
  below_apart (ReadAt handle height) refused = refused

  row_apart : (ask : Ask) → WasRowRefused accepts ask from chain (Conflict standing) past → ⊥
  row_apart (NewLedger entry) (own, got, before, is, put, none) = none
  row_apart (AppendEntry entry) (own, got, before, is, put, none) = none
  row_apart (ReadAt handle height) (got, before, is, refreshed, none) = none

  round_apart : (settling : Settling) (calls : List Event) → IsRefusedInRound accepts settling calls (Conflict standing) → ⊥
  round_apart settling [] refused = refused
  round_apart settling (event ∷ calls) (round, place, asked, id, low, none) = none

  settle_apart : (settling : Settling) (calls : List Event) → IsSettleRefused accepts settling calls (Conflict standing) → ⊥
  settle_apart settling calls (inl refused) = round_apart settling calls refused
  settle_apart settling [] (inr (inl refused)) = refused
  settle_apart settling (event ∷ calls) (inr (inl (causes, place, got, walked, is, none))) = none
  settle_apart settling calls (inr (inr (place, causes, few, is, none))) = none

  pub conflict_apart : (ask : Ask) → WasRefused accepts ask from chain (Conflict standing) past → ⊥
  conflict_apart ask (inl (refresh, got, before, is, sound, none)) = refresh_apart refresh _ none
  conflict_apart ask (inr (inl refused)) = below_apart ask refused
  conflict_apart ask (inr (inr (inl (row, put, was, none)))) = none
  conflict_apart ask (inr (inr (inr (inl refused)))) = row_apart ask refused
  conflict_apart ask (inr (inr (inr (inr (found, settle, settling, none))))) = settle_apart _ _ none

-- ---- where metablocks lead

last_links : (block : MetaBlock) (chain : List MetaBlock) (tail : List ℕ) → Links chain (block_tail block) (block.height + 1) tail
    → (tail ≡ block_tail (last_block block chain)) × (block.height + 1 + length chain ≡ (last_block block chain).height + 1)
last_links block [] tail links = (sym links, omega arith)
last_links block (next ∷ chain) tail (height, prev, links) =
    let rest = last_links next chain tail (subst (λ (n : ℕ). Links chain (block_tail next) (n + 1) tail) (sym height) links) in
    (rest.0, omega (arith, height, rest.1))

-- ---- receipts that stand

-- the receipt of an answer has marks that were signed
abbrev pub IsResultSigned : List Served → Result Standing Cause → Type 0
IsResultSigned served (Ok standing) = AreSigned served standing.receipt
IsResultSigned served (Err (Conflict standing)) = AreSigned served standing.receipt
IsResultSigned served (Err cause) = Unit {0}

module _ (checks : Accepts) (roster config : List Member) (limits : Limits checks) (ids : HaveIds config) (served : List Served) where
  abbrev V : List ℕ
  V = View checks config limits ids

  abbrev Heard : List Event → Type 0
  Heard past = AreHeard V served past

  -- what is attached is the receipt that was signed
  given_signed : (attached : Option (List ℕ)) (receipt : Receipt) → MayHave (IsOfReceipt V served) attached → attached ≡ Some (receipt_bytes receipt) → IsPlain V receipt → AreSigned served receipt
  given_signed None receipt has is plain = absurd (cc is)
  given_signed (Some bytes) receipt (inl none) is plain = absurd (none receipt (cc is))
  given_signed (Some bytes) receipt (inr (own, own_is, own_plain, signed)) is plain =
      let same : bytes ≡ receipt_bytes receipt = cc is in
      subst (AreSigned served) (same_receipt V own receipt own_plain plain (sym own_is ∙ same)) signed

  attached_is : (head : Head) (attached : Option (List ℕ)) (receipt : Receipt) → IsAttached checks (config ∷ []) head attached receipt
      → (attached ≡ Some (receipt_bytes receipt)) × IsReceiptFor checks (config ∷ []) head receipt
  attached_is head None receipt is = absurd is
  attached_is head (Some bytes) receipt (reads, is) = (ap (λ (b : List ℕ). let o : Option (List ℕ) = Some b in o) reads.1, is)

  module _ (from : ViewChain) (past : List Event) (heard : Heard past) where
    abbrev Chain : ViewChain
    Chain = alone roster config

    newest_has : (event : Event) (before : List Event) → past ≡ event ∷ before → IsGotHeard (IsOfReceipt V served) event
    newest_has event before is = (subst (AllGotHeard (IsOfReceipt V served)) is heard.gots).0

    -- the row that was given, with what is attached to it
    gave_has : (ask : Ask) (found : Found) (stored : Stored) → GaveRow checks ask from Chain found stored past
        → MayHave (IsOfReceipt V served) stored.attached × (length (handle_of found.row.entry) ≡ 32) × (found.row.metablock.height < 2 ^ 64)
    gave_has (ReadAt handle height) found stored (before, is, good, own, refreshed) =
        (newest_has _ before is, subst (λ (h : List ℕ). length h ≡ 32) (sym good.at.of_ledger) (good_handle _ _ stored.body found.row good), good_height _ _ stored.body found.row good)
    gave_has (NewLedger entry) found stored (own, before, is, place, same, put) =
        (newest_has _ before is, subst (λ (h : List ℕ). length h ≡ 32) (sym place.good.at.of_ledger) (good_handle _ _ stored.body found.row place.good), good_height _ _ stored.body found.row place.good)
    gave_has (AppendEntry entry) found stored (own, before, is, place, same, put) =
        (newest_has _ before is, subst (λ (h : List ℕ). length h ≡ 32) (sym place.good.at.of_ledger) (good_handle _ _ stored.body found.row place.good), good_height _ _ stored.body found.row place.good)

    receipted_signed : (ask : Ask) (found : Found) (receipt : Receipt) → IsReceipted checks ask from Chain found receipt past → AreSigned served receipt
    receipted_signed ask found receipt is =
        let has = gave_has ask found is.stored is.given in
        let at = attached_is (head_of found.row) is.stored.attached receipt is.attached in
        given_signed is.stored.attached receipt has.0 at.0 (plain_after checks config limits ids (handle_of found.row.entry) found.row.metablock receipt at.1 has.1 has.2)

    settled_signed : (settling : Settling) (calls before : List Event) (blocks : List MetaBlock) (receipt : Receipt) → settling.configs ≡ config ∷ [] → past ≡ calls ++ before
        → IsSettled checks settling calls blocks receipt → AreSigned served receipt
    settled_signed settling calls before blocks receipt same split is = by is.shown
      where
        last : MetaBlock
        last = last_block settling.block blocks

        leads : (is.tail ≡ block_tail last) × (settling.block.height + 1 + length blocks ≡ last.height + 1)
        leads = last_links settling.block blocks is.tail is.links

        receipt_is : IsReceiptFor checks (config ∷ []) (head_after checks config limits ids settling.handle last) receipt
        receipt_is =
            subst (λ (c : List (List Member)). IsReceiptFor checks c (head_after checks config limits ids settling.handle last) receipt) same
            (subst (λ (t : List ℕ). IsReceiptFor checks settling.configs (record { handle = settling.handle; tail = t; count = last.height + 1 }) receipt) leads.0
            (subst (λ (n : ℕ). IsReceiptFor checks settling.configs (record { handle = settling.handle; tail = is.tail; count = n }) receipt) leads.1 is.accepted))

        by : IsReceiptGiven settling calls last receipt ⊎ AllByRecursion (IsMarkShown checks (asking settling last) calls) receipt.marks → AreSigned served receipt
        by (inl (stored, row, had, good, block_is, attached)) =
            let event = got_at settling last.height (gots.Some stored) in
            let has = all_had (IsGotHeard (IsOfReceipt V served)) past heard.gots event (subst (λ (p : List Event). Had p event) (sym split) (had_left calls before event had)) in
            let low : last.height < 2 ^ 64 = subst (λ (b : MetaBlock). b.height < 2 ^ 64) (sym block_is) (good_height _ _ stored.body row good) in
            given_signed stored.attached receipt has attached (plain_after checks config limits ids settling.handle last receipt receipt_is (good_handle _ _ stored.body row good) low)
        by (inr shown) = shown_signed checks config limits ids served past heard.links settling last receipt calls before same split receipt_is shown

    stands_signed : (ask : Ask) (found : Found) (blocks : List MetaBlock) (receipt : Receipt) → Stands checks ask from Chain found blocks receipt past → AreSigned served receipt
    stands_signed ask found blocks receipt (inl (none, is)) = receipted_signed ask found receipt is
    stands_signed ask found blocks receipt (inr is) =
        settled_signed (settling_of (config ∷ []) found.row) is.settling.calls is.settling.before blocks receipt refl is.settling.split is.settled

    -- an operation that knows the view alone
    pub answered_signed : (ask : Ask) (answer : Result Standing Cause) → IsAnswered checks ask from Chain answer past → IsResultSigned served answer
    answered_signed ask (Ok standing) stands = stands_signed ask _ standing.chain standing.receipt stands
    answered_signed ask (Err (Conflict standing)) (inl stands) = stands_signed ask _ standing.chain standing.receipt stands
    answered_signed ask (Err (Conflict standing)) (inr refused) = absurd (conflict_apart checks from Chain standing past ask refused)
    answered_signed ask (Err (Gap handle missing)) is = tt
    answered_signed ask (Err (NoQuorum need reasons)) is = tt
    answered_signed ask (Err (ViewMoved view id statement sig)) is = tt
    answered_signed ask (Err StoreFault) is = tt
    answered_signed ask (Err (BadRow key bytes)) is = tt
    answered_signed ask (Err (Contended id first later)) is = tt
    answered_signed ask (Err (Full id)) is = tt
    answered_signed ask (Err (TooFar needed)) is = tt
    answered_signed ask (Err (Reused id)) is = tt
    answered_signed ask (Err NoMemory) is = tt

-- ---- reads of a newest row

abbrev pub IsReplySigned : List Served → Result LatestReply Cause → Type 0
IsReplySigned served (Ok reply) = AreSigned served reply.receipt
IsReplySigned served (Err cause) = Unit {0}

pub latest_signed : (accepts : Accepts) (ask : LatestAsk) (chain : ViewChain) (served : List Served) (past : List Event) → AllLinkHeard served past → (answer : Result LatestReply Cause) → LatestSays accepts ask chain past answer
    → IsReplySigned served answer
latest_signed accepts ask chain served past heard (Err cause) says = tt
latest_signed accepts ask chain served past heard (Ok reply) says =
    let head = says.0 in
    let receipted = says.1 in
    let statement = latest (asking_of ask chain).claim head.tail head.count in
    all_lift (λ (mark : Mark). Had past (latest_to (asking_of ask chain) mark.id (Answered (Signed statement mark.sig)))) (λ (mark : Mark). WasSigned served mark.id reply.receipt.statement mark.sig)
    (λ (mark : Mark) had. subst (λ (s : Statement). WasSigned served mark.id s mark.sig) (sym receipted.states) (was_heard served past mark.id _ statement mark.sig heard had)) reply.receipt.marks receipted.marks
