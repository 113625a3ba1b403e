use Rattle.std.proofs.Common.{◌∙◌, ap, ◌||◌}
use Rattle.std.specs.List.{list_any}
use Rattle.std.specs.Ordering.{nat_cmp, is_eq}
use Rattle.std.specs.Cmp.Lexicographic.{slice_cmp}
use Rattle.std.specs.Str.{bytes_eq}
use Rattle.fault_script.specs.Kept.{has}
use Rattle.fault_script.proofs.Names.{one_key_more}
use Rattle.fault_script.proofs.labels.Labels.add.Goals as goal

pub returns : goal.returns
returns c = λ q.
    ap (λ keys. list_any (λ key. is_eq (slice_cmp nat_cmp q key.items)) keys) c.in_ok-insert.ensures.keys
    ∙ one_key_more (λ key. key.items) c.args.self.now.used.keys c.in_ok-from_slice.field-0 q
    ∙ ap (λ label. has c.args.self.now q || bytes_eq q label) c.in_ok-from_slice.ensures.items
