use Rattle.std.proofs.Common.{◌∙◌, ap}
use Rattle.name_map.specs.NameMap.{means}
use Rattle.name_map.proofs.Names.{found}
use Rattle.name_map.proofs.name_map.NameMap.get.Goals as goal

pub returns : goal.returns
returns g c =
    c.copied.ensures ∙ c.get.ensures.value ∙ found (λ key. key.items) c.self.inside.values.entries c.args.name.now
    ∙ ap (λ entries. means entries c.args.name.now) c.self.view_is
