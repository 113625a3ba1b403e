use Rattle.world_run.proofs.RunLines.{forged}
use Rattle.world_run.proofs.operation_lines.forge.Goals as goal

pub returns : goal.returns
returns g c =
    forged g.M.Scheme.Signer.Signer.key_of g.M.Scheme.Signer.Signer.left_of g.M.Scheme.Signer.Signer.size_of g.M.Scheme.Signer.Signer.signs g.M.Scheme.Scheme.fits g.M.Scheme.Checker.Checker.accepts g.N.RunName.accepts
    c.args.world.now c.forge-said.new.self c.forge-said.ensures.goes c.turns_are_counted.ensures c.forge-said.ensures.names c.forge-said.ensures.ledgers c.forge-said.ensures.draws c.args.op.now
    (g.M.Seals.key_of c.args.seals.now) (g.M.Seals.left_of c.args.seals.now) (λ member. member.id) (λ member. member.signer) c.in_ok-signers.signers.items c.args.count c.args.ids.now
    c.in_ok-signers.ensures.ids c.in_ok-signers.ensures.keys c.forge-said.result c.forge-said.ensures.forged
