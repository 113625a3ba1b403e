use Rattle.script_world.proofs.Members.{not_of_roster}
use Rattle.script_world.proofs.raw.see_members.Goals as goal

pub returns : goal.returns
returns g c = not_of_roster g.G.Signer.Signer.key_of c.args.bank.now.cells g.K.RunName.members c.log.ensures.roster.members
