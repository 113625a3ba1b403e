use Rattle.std.proofs.Common.{◌∙◌, ap, cond, Some}
use Rattle.std.proofs.Math.Path.{fun_ext}
use Rattle.std.specs.Str.{bytes_eq}
use Rattle.name_map.specs.NameMap.{means}
use Rattle.name_map.proofs.Names.{found_more}
use Rattle.name_map.proofs.name_map.NameMap.set.Goals as goal

pub returns-clause-set : goal.returns-clause-set
returns-clause-set g c = fun_ext (λ q.
    found_more (λ key. key.items) c.self.inside.values.entries c.insert.new.self.entries c.in_ok-from_slice.field-0 c.args.name.now c.args.value c.in_ok-insert.ensures.entries c.in_ok-from_slice.ensures.items q
    ∙ ap (λ entries. cond (bytes_eq q c.args.name.now) (Some c.args.value) (means entries q)) c.self.view_is)
