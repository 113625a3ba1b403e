use Rattle.std.proofs.Common.{◌≡◌, ap, sym, ◌∙◌, subst, rules, arith}
use Rattle.std.specs.List.{insert}
use Rattle.tail_map.specs.TailMap.{Content, IsRising}
use Rattle.tail_map.proofs.Places.{parts, set_gap}
use Rattle.tail_map.proofs.Sets.{map_gap}
use Rattle.tail_map.proofs.tail_map.TailMap.add.Goals as goal

pub invariant_of-self-2 : goal.invariant_of-self-2
invariant_of-self-2 c =
    let items : c.insert.new.self.items ≡ insert c.self.inside.rows.items c.args.place c.args.row.now = search rules in
    let rows = ap (λ (map : Content). map.rows) c.self.view_is in
    let held = c.self.invariant.0 in
    let gap = parts c.self.inside.rows.items c.args.row.now.handle c.args.place held.rising (rw rows c.requires.place) in
    (rw items (map_gap c.self.inside.rows.items c.args.row.now c.args.place held c.requires.row (rw rows c.requires.range) (omega (arith, c.len.ensures)) gap), search rules)

pub returns-clause-rows : goal.returns-clause-rows
returns-clause-rows c =
    let items : c.insert.new.self.items ≡ insert c.self.inside.rows.items c.args.place c.args.row.now = search rules in
    let rows = ap (λ (map : Content). map.rows) c.self.view_is in
    let up = subst IsRising rows c.self.invariant.0.rising in
    let gap = parts c.args.self.now.rows c.args.row.now.handle c.args.place up c.requires.place in
    items ∙ ap (λ rows. insert rows c.args.place c.args.row.now) rows ∙ sym (set_gap c.args.self.now.rows c.args.row.now c.args.place c.requires.range gap)

pub returns-clause-map : goal.returns-clause-map
returns-clause-map c =
    let items : c.insert.new.self.items ≡ insert c.self.inside.rows.items c.args.place c.args.row.now = search rules in
    let rows = ap (λ (map : Content). map.rows) c.self.view_is in
    let held = c.self.invariant.0 in
    let gap = parts c.self.inside.rows.items c.args.row.now.handle c.args.place held.rising (rw rows c.requires.place) in
    rw items (map_gap c.self.inside.rows.items c.args.row.now c.args.place held c.requires.row (rw rows c.requires.range) (omega (arith, c.len.ensures)) gap)
