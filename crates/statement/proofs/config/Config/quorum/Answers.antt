use Rattle.std.proofs.Common.{◌≡◌, ap, sym, ◌∙◌, ◌+◌, ◌/◌, length, rules}
use Rattle.statement.proofs.Quorums.{sum_of_ones}
use Rattle.statement.proofs.config.Config.quorum.Goals as goal

pub returns : goal.returns
returns c =
    let count : c.len.result ≡ length c.args.self.now = search rules in
    ap (λ n. n / 2 + 1) (count ∙ sym (sum_of_ones c.args.self.now))
