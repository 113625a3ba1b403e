use Rattle.std.proofs.Common.{◌≡◌, sym, ap, ◌∙◌, rules}
use Rattle.sha2.specs.Sha256.{sha256}
use Rattle.statement.specs.ViewBlock.{view_block_bytes}
use Rattle.statement.specs.ViewTail.{view_tail_after, view_tail_of_list, view_tail_of_list-push}
use Rattle.statement.proofs.view_block.ViewBlock.tail.Goals as goal

pub returns-clause-whole : goal.returns-clause-whole
returns-clause-whole c =
    let block = c.args.self.now in
    let digest : c.finalize.result ≡ sha256 (view_block_bytes block) = search rules in
    λ below prev number.
    digest
    ∙ ap (λ tail. view_tail_after tail block.config block.number) prev
    ∙ ap (λ count. view_tail_after (view_tail_of_list below) block.config count) number
    ∙ sym (view_tail_of_list-push below block.config)
