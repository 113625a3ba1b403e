use Rattle.std.proofs.Common.{◌<◌, ap, sym, ◌∙◌, subst, rules, length}
use Rattle.std.specs.Prelude.{slice_set}
use Rattle.tail_map.specs.TailMap.{Content, IsRising}
use Rattle.tail_map.proofs.Places.{set_at}
use Rattle.tail_map.proofs.Sets.{map_at}
use Rattle.tail_map.proofs.tail_map.TailMap.replace.Goals as goal

pub invariant_of-self : goal.invariant_of-self
invariant_of-self c =
    let rows = ap (λ (map : Content). map.rows) c.self.view_is in
    let range : c.args.place < length c.self.inside.rows.items = rw rows c.requires.range in
    let held = rw (← rows) at (c.requires.place c.args.row.now) in
    (map_at c.self.inside.rows.items c.args.row.now c.args.place c.args.row.now c.self.invariant.0 c.requires.row range held, search rules)

pub returns-clause-rows : goal.returns-clause-rows
returns-clause-rows c =
    let rows = ap (λ (map : Content). map.rows) c.self.view_is in
    let up = subst IsRising rows c.self.invariant.0.rising in
    ap (λ rows. slice_set rows c.args.place c.args.row.now) rows ∙ sym (set_at c.args.self.now.rows c.args.row.now c.args.place c.args.row.now up c.requires.range (c.requires.place c.args.row.now))

pub returns-clause-map : goal.returns-clause-map
returns-clause-map c =
    let rows = ap (λ (map : Content). map.rows) c.self.view_is in
    let range : c.args.place < length c.self.inside.rows.items = rw rows c.requires.range in
    let held = rw (← rows) at (c.requires.place c.args.row.now) in
    map_at c.self.inside.rows.items c.args.row.now c.args.place c.args.row.now c.self.invariant.0 c.requires.row range held
