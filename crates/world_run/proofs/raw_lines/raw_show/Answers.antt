use Rattle.std.proofs.Common.{◌≡◌, None, sym, ◌∙◌}
use Rattle.statement.specs.Config.{ids as ids_of}
use Rattle.port.specs.Call.{Show}
use Rattle.roster_bank.specs.Places.{place_in}
use Rattle.script_world.specs.Labels.{handle_for}
use Rattle.script_world.specs.Raw.{AnsweredRaw}
use Rattle.script_world.specs.Running.{world_of}
use Rattle.world_run.proofs.Ids.{is_there}
use Rattle.world_run.proofs.RunLines.{asked_raw}
use Rattle.world_run.proofs.raw_lines.raw_show.Goals as goal

pub returns : goal.returns
returns g c =
    asked_raw g.G.Signer.Signer.key_of g.G.Signer.Signer.left_of g.G.Signer.Signer.size_of g.G.Signer.Signer.signs g.G.Scheme.fits g.G.Checker.Checker.accepts g.N.RunName.accepts c.args.world.now c.raw_show-said.new.self
    (AnsweredRaw g.G.Signer.Signer.key_of g.G.Signer.Signer.left_of g.G.Signer.Signer.size_of g.G.Signer.Signer.signs g.G.Scheme.fits c.args.world.now.state.link c.raw_show-said.new.self.state.link c.args.id (Show (handle_for (world_of c.args.world.now).labels c.args.label.now)))
    (place_in (ids_of g.N.RunName.members) c.args.id ≡ None) (is_there (ids_of g.N.RunName.members) c.args.id c.requires.members c.requires.id)
    c.raw_show-said.ensures.rest c.calls_are_kept.ensures.served (c.calls_are_kept-2.ensures.roster.fresh ∙ sym c.calls_are_kept.ensures.roster.fresh) c.raw_show-said.result c.raw_show-said.ensures.answered c.raw_show-said.ensures.none
