use Rattle.std.proofs.Common.{rules, ◌∙◌, [], map, ap}
use Rattle.std.specs.Option.{option_map_or}
use Rattle.blob_store.proofs.KeyMap.{apart}
use Rattle.blob_store.proofs.pool.Pool.share.Goals as goal

pub returns-in-Some-clause-others : goal.returns-in-Some-clause-others
returns-in-Some-clause-others c other is =
    let updates = (c.get_mut.follows.holds c.share_in.new.texts).3 (search rules) in
    ap (λ found. option_map_or (λ texts. map (λ text. text.value.bytes) texts.items) found []) (apart _ c.keys_tie.ensures c.args.self.now.texts.entries _ c.args.key.now _ updates.0 other is)

pub returns-in_ok-insert-in-None-clause-others : goal.returns-in_ok-insert-in-None-clause-others
returns-in_ok-insert-in-None-clause-others c other is =
    ap (λ found. option_map_or (λ texts. map (λ text. text.value.bytes) texts.items) found [])
    (apart _ c.keys_tie.ensures c.get_mut.follows.lender-at-none.entries c.insert.new.self.entries c.args.key.now _ c.in_ok-insert-in-None.ensures.updates.0 other is
    ∙ search rules)
