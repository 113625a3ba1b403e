use Rattle.std.proofs.Common.{◌≡◌, sym, ap, ◌∙◌, rules}
use Rattle.chain_block.specs.Tail.{tail_after, tail_of_list, tail_of_list-push}
use Rattle.chain_block.proofs.meta_block.tail_of.Goals as goal

pub returns-clause-whole : goal.returns-clause-whole
returns-clause-whole c =
    let digest : c.finalize.result ≡ tail_after c.args.prev.now c.args.entry.now c.args.height = search rules in
    λ below prev height.
    digest
    ∙ ap (λ tail. tail_after tail c.args.entry.now c.args.height) prev
    ∙ ap (λ count. tail_after (tail_of_list below) c.args.entry.now count) height
    ∙ sym (tail_of_list-push below c.args.entry.now)
