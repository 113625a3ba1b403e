-- What an answer says.
use Rattle.std.proofs.Common.{◌≡◌, inl, inr, ℕ, ◌+◌, true, false, List, [], ◌∷◌, length, Option, Some, None, Result, Ok, Err, refl, sym, subst, ap, arith}
use Rattle.chain_block.specs.declared.meta_block.MetaBlock.{MetaBlock}
use Rattle.chain_block.specs.Links.{Links}
use Rattle.statement.specs.declared.member.Member.{Member}
use Rattle.statement.specs.Mark.{Content as Mark}
use Rattle.statement.specs.Receipt.{Receipt, receipt_bytes}
use Rattle.port.specs.declared.key.Key.TheVariants as keys
use Rattle.port.specs.declared.store_answers.Got.TheVariants as gots
use Rattle.port.specs.Cause.{Cause, Conflict}
use Rattle.port.specs.Reply.{Standing}
use Rattle.port.specs.Trace.{Event, Had}
use Rattle.view_ledger.specs.Views.{ViewChain}
use Rattle.view_ledger.specs.Receipts.{Accepts}
use Rattle.op_parts.specs.Attachment.{IsAttached, IsReceiptFor}
use Rattle.op_parts.specs.RefreshState.{RefreshState, AtView, AtFinals, AtEnd}
use Rattle.op_parts.specs.RoundAsking.{Asking}
use Rattle.op_parts.specs.RoundLaws.{IsMarkShown}
use Rattle.op_parts.specs.Walk.{block_tail}
use Rattle.settle.specs.Settling.{Settling, asking, last_block}
use Rattle.settle.specs.Says.{IsRefused as IsSettleRefused, IsRefusedInRound, IsRefusedInWalk}
use Rattle.op_entry.specs.declared.found.Found.{Found}
use Rattle.op_entry.specs.Ask.{Ask, NewLedger, AppendEntry, ReadAt, ledger_of, place_of}
use Rattle.op_entry.specs.OwnRow.{get_of}
use Rattle.op_entry.specs.Standing.{head_of, settling_of, standing_of}
use Rattle.op_entry.specs.Sound.{IsAt, IsReceipted, WasSettled, Stands, IsAnswered, found_in, WasRefused, WasRowRefused, WasBelowRefused}
use Rattle.op_entry.specs.Refusal.{IsRefreshRefused}
use Rattle.std.specs.Prelude.{IfSome}
use Rattle.op_entry.specs.State.{Stage, Ended, answer_at}
use Rattle.op_entry.specs.Says.{IsReceiptShown, IsStanding, Says}
use Rattle.op_entry.proofs.Within.{Within, within_all, calls_within, all_more}
use Rattle.op_entry.proofs.Knowing.{Knows, knows_more, given_knows, given_had, to_settle_knows}

-- a receipt of the row's head is one of the ledger's
of_ledger : (accepts : Accepts) (configs : List (List Member)) (handle ledger tail : List ℕ) (count n : ℕ) (receipt : Receipt) → handle ≡ ledger → count ≡ n
    → IsReceiptFor accepts configs (record { handle = handle; tail = tail; count = count }) receipt
    → IsReceiptFor accepts configs (record { handle = ledger; tail = tail; count = n }) receipt
of_ledger accepts configs handle ledger tail count n receipt ledger_is count_is is =
    subst (λ (h : List ℕ). IsReceiptFor accepts configs (record { handle = h; tail = tail; count = n }) receipt) ledger_is
    (subst (λ (c : ℕ). IsReceiptFor accepts configs (record { handle = handle; tail = tail; count = c }) receipt) count_is is)

mark_more : (accepts : Accepts) (ask : Asking) (some all : List Event) → Within some all → (mark : Mark) → IsMarkShown accepts ask some mark → IsMarkShown accepts ask all mark
mark_more accepts ask some all more mark is = (is.0, is.1, is.2, is.3, is.4, more _ is.5)

module _ (accepts : Accepts) (ask : Ask) (from chain : ViewChain) (found : Found) (receipt : Receipt) (past : List Event) where
  attached_is : (attached : Option (List ℕ)) → IsAttached accepts chain.configs (head_of found.row) attached receipt
      → (attached ≡ Some (receipt_bytes receipt)) × IsReceiptFor accepts chain.configs (head_of found.row) receipt
  attached_is None is = absurd is
  attached_is (Some bytes) is = (ap Some is.0.1, is.1)

  by_attached : IsReceipted accepts ask from chain found receipt past → IsStanding accepts ask chain.configs past (standing_of found.row [] receipt)
  by_attached has =
      let knows = given_knows accepts from chain ask found has.stored past has.given in
      let is = attached_is has.stored.attached has.attached in
      let height : found.row.metablock.height ≡ place_of ask = knows.at.block_height in
      record {
        at = knows.at;
        known = knows.known;
        below = knows.below;
        tail = block_tail found.row.metablock;
        links = refl;
        accepted = of_ledger accepts chain.configs (head_of found.row).handle (ledger_of ask) (block_tail found.row.metablock) (head_of found.row).count (place_of ask + 1 + 0) receipt
            knows.at.of_ledger (omega (arith, height)) is.1;
        shown = inl (place_of ask, has.stored, given_had accepts from chain ask found has.stored past has.given, is.0);
      }

  by_settling : (blocks : List MetaBlock) → WasSettled accepts ask from chain found blocks receipt past → IsStanding accepts ask chain.configs past (standing_of found.row blocks receipt)
  by_settling blocks was =
      let settling : Settling = settling_of chain.configs found.row in
      let knows = knows_more ask was.settling.before past found (within_all past was.settling.calls was.settling.before was.settling.split) (to_settle_knows accepts from chain ask found was.settling.before was.settling.began) in
      let calls : Within was.settling.calls past = calls_within past was.settling.calls was.settling.before was.settling.split in
      let height : found.row.metablock.height ≡ place_of ask = knows.at.block_height in
      let ledger : settling.handle ≡ ledger_of ask = knows.at.of_ledger in
      let shown : IsReceiptShown accepts ask chain.configs past (standing_of found.row blocks receipt) = elim was.settled.shown [
        | inl given ↦ inl ((last_block settling.block blocks).height, given.0, subst (λ (h : List ℕ). Had past (get_of (keys.Row h (last_block settling.block blocks).height) (gots.Some given.0))) ledger (calls _ given.2), given.5)
        | inr marks ↦ inr (all_more (IsMarkShown accepts (asking settling (last_block settling.block blocks)) was.settling.calls) (IsMarkShown accepts (asking settling (last_block settling.block blocks)) past)
            (mark_more accepts (asking settling (last_block settling.block blocks)) was.settling.calls past calls) receipt.marks marks)
      ] in
      record {
        at = knows.at;
        known = knows.known;
        below = knows.below;
        tail = was.settled.tail;
        links = subst (λ (n : ℕ). Links blocks (block_tail found.row.metablock) n was.settled.tail) (ap (λ n. n + 1) height) was.settled.links;
        accepted = of_ledger accepts chain.configs settling.handle (ledger_of ask) was.settled.tail (settling.block.height + 1 + length blocks) (place_of ask + 1 + length blocks) receipt
            ledger (omega (arith, height)) was.settled.accepted;
        shown = shown;
      }

  stands : (blocks : List MetaBlock) → Stands accepts ask from chain found blocks receipt past → IsStanding accepts ask chain.configs past (standing_of found.row blocks receipt)
  stands blocks (inl has) = subst (λ (b : List MetaBlock). IsStanding accepts ask chain.configs past (standing_of found.row b receipt)) (sym has.0) (by_attached has.1)
  stands blocks (inr was) = by_settling blocks was

  stands_known : (blocks : List MetaBlock) → Stands accepts ask from chain found blocks receipt past → Knows ask past found
  stands_known blocks (inl has) = given_knows accepts from chain ask found has.1.stored past has.1.given
  stands_known blocks (inr was) = knows_more ask was.settling.before past found (within_all past was.settling.calls was.settling.before was.settling.split)
      (to_settle_knows accepts from chain ask found was.settling.before was.settling.began)

-- no operation was refused because of a conflict
module _ (accepts : Accepts) (from chain : ViewChain) (standing : Standing) (past : List Event) where
  refresh_conflict : (refresh : RefreshState) (event : Event) → IsRefreshRefused accepts chain refresh event (Conflict standing) → ⊥
  refresh_conflict AtView event is = is
  refresh_conflict (AtFinals body block config) event is = is
  refresh_conflict AtEnd event is = is

  below_conflict : (ask : Ask) → WasBelowRefused accepts ask from chain (Conflict standing) past → ⊥
  below_conflict (NewLedger entry) is = is
  below_conflict (AppendEntry entry) is = is.4
  below_conflict (ReadAt handle height) is = is

  row_conflict : (ask : Ask) → WasRowRefused accepts ask from chain (Conflict standing) past → ⊥
  row_conflict (NewLedger entry) is = is.5
  row_conflict (AppendEntry entry) is = is.5
  row_conflict (ReadAt handle height) is = is.4

  round_conflict : (settling : Settling) (calls : List Event) → IsRefusedInRound accepts settling calls (Conflict standing) → ⊥
  round_conflict settling [] is = is
  round_conflict settling (event ∷ calls) is = is.5

  walk_conflict : (settling : Settling) (calls : List Event) → IsRefusedInWalk accepts settling calls (Conflict standing) → ⊥
  walk_conflict settling [] is = is
  walk_conflict settling (event ∷ calls) is = is.5

  settle_conflict : (settling : Settling) (calls : List Event) → IsSettleRefused accepts settling calls (Conflict standing) → ⊥
  settle_conflict settling calls (inl is) = round_conflict settling calls is
  settle_conflict settling calls (inr (inl is)) = walk_conflict settling calls is
  settle_conflict settling calls (inr (inr is)) = is.4

  no_conflict : (ask : Ask) → WasRefused accepts ask from chain (Conflict standing) past → ⊥
  no_conflict ask (inl is) = refresh_conflict is.0 _ is.5
  no_conflict ask (inr (inl is)) = below_conflict ask is
  no_conflict ask (inr (inr (inl is))) = is.3
  no_conflict ask (inr (inr (inr (inl is)))) = row_conflict ask is
  no_conflict ask (inr (inr (inr (inr is)))) = settle_conflict (settling_of chain.configs is.0.row) is.2.calls is.3

-- an answer says what its calls show
pub says : (accepts : Accepts) (ask : Ask) (from chain : ViewChain) (answer : Result Standing Cause) (past : List Event) → IsAnswered accepts ask from chain answer past
    → Says accepts ask from chain past answer
says accepts ask from chain (Ok standing) past is = (
  stands accepts ask from chain (found_in standing true) standing.receipt past standing.chain is,
  (stands_known accepts ask from chain (found_in standing true) standing.receipt past standing.chain is).own refl,
)
says accepts ask from chain (Err (Conflict standing)) past (inl is) = (
  stands accepts ask from chain (found_in standing false) standing.receipt past standing.chain is,
  (stands_known accepts ask from chain (found_in standing false) standing.receipt past standing.chain is).other refl,
)
says accepts ask from chain (Err (Conflict standing)) past (inr is) = absurd (no_conflict accepts from chain standing past ask is)
says accepts ask from chain (Err cause) past (inl is) = absurd is
says accepts ask from chain (Err cause) past (inr is) = is

-- the answer at a stage, where one stands
pub says_at : (accepts : Accepts) (ask : Ask) (from chain : ViewChain) (stage : Stage) (past : List Event) → IsAt accepts ask from chain stage past
    → IfSome (answer_at stage) (Says accepts ask from chain past)
says_at accepts ask from chain (Ended answer) past is = says accepts ask from chain answer past is
says_at accepts ask from chain stage past is = tt
