use Rattle.std.proofs.Common.{ap, length}
use Rattle.port.specs.Call.{call_of}
use Rattle.port.specs.Heard.{heard_of}
use Rattle.roster_bank.proofs.Counting.{few_served, link_next, served_now}
use Rattle.roster_bank.proofs.Rosters.{link_roster}
use Rattle.roster_bank.proofs.roster_bank.RosterBankLink.call.Goals as goal

pub served_with-self-inside-requires : goal.served_with-self-inside-requires
served_with-self-inside-requires g c = few_served c.self.inside.served c.self.inside.bank.log _ c.self.invariant.1 (ap length c.log-before.ensures.log)

pub invariant_of-self : goal.invariant_of-self
invariant_of-self g c = (
  link_roster g.G.Signer.Signer.key_of g.G.Checker.Checker.accepts g.K.RunName.members g.K.RunName.accepts
      g.G.Signer.Signer.left_of g.G.Signer.Signer.size_of g.G.Signer.Signer.signs g.G.Scheme.fits
      c.self.inside.bank c.call-answer.new.self c.self.inside.bank.calls c.args.id (call_of c.args.call.now) (heard_of c.call-answer.result) c.self.invariant.0 c.call-answer.ensures.fresh c.call-answer.ensures.asks,
  served_now c.self.inside.bank.log c.call-answer.new.self.log c.log.result.now c.self.inside.served _ _
      (link_next g.G.Signer.Signer.key_of g.G.Signer.Signer.left_of g.G.Signer.Signer.size_of g.G.Signer.Signer.signs g.G.Scheme.fits
      c.self.inside.bank.cells c.call-answer.new.self.cells c.self.inside.bank.log c.call-answer.new.self.log c.self.inside.bank.calls c.args.id (call_of c.args.call.now) (heard_of c.call-answer.result) c.call-answer.ensures.asks)
      c.self.invariant.1 (ap length c.log-before.ensures.log) c.log.ensures.log c.served_with-self-inside.ensures,
)
