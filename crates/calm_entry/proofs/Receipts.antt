-- The receipt of the next row of a ledger can be written.
use Rattle.std.proofs.Common.{◌≡◌, ◌<◌, ◌≤◌, List, length, ap, ◌∙◌, arith}
use Rattle.std.specs.Prelude.{◌^◌}
use Rattle.std.specs.List.{AllByRecursion}
use Rattle.sha2.proofs.Facts256.{length-sha256}
use Rattle.chain_block.specs.declared.entry.Entry.{Entry}
use Rattle.chain_block.specs.declared.entry.Entry.TheVariants.{Genesis, Later}
use Rattle.chain_block.specs.Entry.{handle_of, height_of}
use Rattle.statement.specs.declared.member.Member.{Member}
use Rattle.statement.specs.Mark.{Content as Mark, AreMarks}
use Rattle.statement.specs.Receipt.{IsReceipt}
use Rattle.port.specs.RowForm.{IsStored}
use Rattle.calm.specs.Appending.{append_next, receipt_of}
use Rattle.calm.specs.Ledgers.{Ledgers, IsNextEntry}
use Rattle.calm_entry.proofs.LowerLaws.{ReadyLaws}

-- a stored entry is below the highest height, and its handle is a digest
pub is_low : (entry : Entry) → IsStored entry → height_of entry < 2 ^ 32
is_low (Genesis nonce payload) stored = omega arith
is_low (Later handle height nonce payload) stored = let most = stored.0.0.1 in omega (arith, most)

handle_length : (entry : Entry) → IsStored entry → length (handle_of entry) ≡ 32
handle_length (Genesis nonce payload) stored = length-sha256 _
handle_length (Later handle height nonce payload) stored = stored.0.1

pub can_be_written : ReadyLaws → (configs : List (List Member)) (ledgers : Ledgers) (entry : Entry) (marks : List Mark) → 1 ≤ length configs
    → IsNextEntry ledgers (handle_of entry) entry → AreMarks marks → AllByRecursion (λ mark. mark.id < 2 ^ 32) marks
    → IsReceipt (receipt_of (append_next configs (handle_of entry) (ledgers (handle_of entry)) entry) marks)
can_be_written laws configs ledgers entry marks some next are_marks ids = record {
  statement = (
    ap length (laws.tail configs some) ∙ length-sha256 _,
    handle_length entry next.stored,
    length-sha256 _,
    (let low = is_low entry next.stored in let at = next.of_height in omega (arith, low, at)),
  );
  marks = are_marks;
  ids = ids;
}
