use Rattle.std.proofs.Common.{◌∙◌, ap, cond, Some}
use Rattle.std.specs.Map.{lookup}
use Rattle.std.specs.Ordering.{nat_cmp, is_eq}
use Rattle.std.specs.Cmp.Lexicographic.{slice_cmp}
use Rattle.std.specs.Str.{bytes_eq}
use Rattle.fault_script.specs.Kept.{at}
use Rattle.fault_script.proofs.Names.{one_entry_more}
use Rattle.fault_script.proofs.operations.Operations.set.Goals as goal

pub returns-clause-map : goal.returns-clause-map
returns-clause-map c = λ q.
    ap (λ entries. lookup (λ key. is_eq (slice_cmp nat_cmp q key.items)) entries) c.in_ok-insert.ensures.entries
    ∙ one_entry_more (λ key. key.items) c.args.self.now.map.entries c.in_ok-from_slice.field-0 c.args.operation q
    ∙ ap (λ name. cond (bytes_eq q name) (Some c.args.operation) (at c.args.self.now q)) c.in_ok-from_slice.ensures.items
