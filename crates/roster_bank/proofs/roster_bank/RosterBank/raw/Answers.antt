use Rattle.std.proofs.Common.{ap, length}
use Rattle.port.specs.Call.{call_of}
use Rattle.roster_bank.proofs.Counting.{few_served, raw_next, served_now}
use Rattle.roster_bank.proofs.Rosters.{raw_roster}
use Rattle.roster_bank.proofs.roster_bank.RosterBank.raw.Goals as goal

pub served_with-self-inside-requires : goal.served_with-self-inside-requires
served_with-self-inside-requires g c = few_served c.self.inside.served c.self.inside.bank.log _ c.self.invariant.1 (ap length c.log-before.ensures.log)

pub invariant_of-self : goal.invariant_of-self
invariant_of-self g c = (
  raw_roster g.G.Signer.Signer.key_of g.G.Checker.Checker.accepts g.K.RunName.members g.K.RunName.accepts
      g.G.Signer.Signer.left_of g.G.Signer.Signer.size_of g.G.Signer.Signer.signs g.G.Scheme.fits
      c.self.inside.bank c.raw-answer.new.self c.args.id (call_of c.args.call.now) c.raw-answer.result c.self.invariant.0 c.raw-answer.ensures.keeps.fresh c.raw-answer.ensures.raw,
  served_now c.self.inside.bank.log c.raw-answer.new.self.log c.log.result.now c.self.inside.served _ _
      (raw_next g.G.Signer.Signer.key_of g.G.Signer.Signer.left_of g.G.Signer.Signer.size_of g.G.Signer.Signer.signs g.G.Scheme.fits
      c.self.inside.bank.cells c.raw-answer.new.self.cells c.self.inside.bank.log c.raw-answer.new.self.log c.args.id (call_of c.args.call.now) c.raw-answer.result c.raw-answer.ensures.raw)
      c.self.invariant.1 (ap length c.log-before.ensures.log) c.log.ensures.log c.served_with-self-inside.ensures,
)
