use Rattle.std.proofs.Common.{◌∙◌, ap, cond, Some}
use Rattle.std.specs.Map.{lookup}
use Rattle.std.specs.Ordering.{nat_cmp, is_eq}
use Rattle.std.specs.Cmp.Lexicographic.{slice_cmp}
use Rattle.std.specs.Str.{bytes_eq}
use Rattle.run_clients.specs.Places.{at}
use Rattle.run_clients.proofs.Names.{one_entry_more}
use Rattle.run_clients.proofs.places.Places.set.Goals as goal

pub returns-clause-set : goal.returns-clause-set
returns-clause-set c = λ q.
    ap (λ entries. lookup (λ key. is_eq (slice_cmp nat_cmp q key.items)) entries) c.in_ok-insert.ensures.entries
    ∙ one_entry_more (λ key. key.items) c.args.self.now.map.entries c.in_ok-from_slice.field-0 c.args.place q
    ∙ ap (λ name. cond (bytes_eq q name) (Some c.args.place) (at c.args.self.now q)) c.in_ok-from_slice.ensures.items
