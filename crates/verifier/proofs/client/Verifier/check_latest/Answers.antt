use Rattle.std.proofs.Common.{sym, ◌∙◌, refl}
use Rattle.verifier.proofs.Yeses.{is_latest, fits_latest}
use Rattle.verifier.proofs.client.Verifier.check_latest.Goals as goal

pub returns-clause-yes : goal.returns-clause-yes
returns-clause-yes g c =
    let accepts = g.C.Checker.accepts c.args.self.now.checker in
    let reply = c.args.reply.now in
    λ count. (
      λ e. is_latest accepts c.args.self.now.chain.configs c.args.handle.now c.args.nonce.now reply count reply.receipt.statement refl (sym c.latest.ensures ∙ e),
      λ is. c.latest.ensures ∙ fits_latest accepts c.args.self.now.chain.configs c.args.handle.now c.args.nonce.now reply count is,
    )
