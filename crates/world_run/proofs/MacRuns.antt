-- A run over the stand-ins for attested keys, out of one over any.
use Rattle.std.proofs.Common.{ℕ, ◌≤◌, List, length, Result, Ok, Err, IfOk, arith}
use Rattle.std.proofs.lemmas.List.Sums.{count_by-le-length}
use Rattle.fault_script.specs.Command.{Command}
use Rattle.seal.specs.KeyBook.{book_accepts}
use Rattle.seal.specs.MacKey.{mac_key}
use Rattle.client_pass.specs.Record.{Record}
use Rattle.world_run.specs.Printed.{MacPrints, MacPrintsFront, mac_fits, mac_left, mac_signs, mac_size}
use Rattle.world_run.specs.Replayed.{HaveLeftFor, Prints, PrintsFirst, is_between}
use Rattle.script_runs.specs.Ids.{all_ids}

pub if_ok : {A E : Type 0} (result : Result A E) {P Q : A → Type 0} → ((value : A) → P value → Q value) → IfOk result P → IfOk result Q
if_ok (Ok value) more is = more value is
if_ok (Err fault) more is = is

have_left : (script : List Command) → length script ≤ 65536 → HaveLeftFor mac_left script
have_left script few = λ id is. let count = count_by-le-length is_between script in omega (arith, few, count)

pub mac_prints : (script : List Command) (made : Record) (printed : List (List ℕ)) → length script ≤ 65536
    → Prints mac_key mac_left mac_size mac_signs mac_fits book_accepts mac_key mac_left (book_accepts all_ids) script made printed → MacPrints script made printed
mac_prints script made printed few did = record { replayed = did.replayed; plain = λ plain. did.plain plain (have_left script few) }

pub mac_front : (script : List Command) (printed : List (List ℕ)) → length script ≤ 65536
    → PrintsFirst mac_key mac_left mac_size mac_signs mac_fits book_accepts mac_key mac_left (book_accepts all_ids) script printed → MacPrintsFront script printed
mac_front script printed few did = record { front = did.front; plain = λ plain. did.plain plain (have_left script few) }
