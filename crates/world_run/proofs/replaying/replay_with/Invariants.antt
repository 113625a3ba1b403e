use Rattle.script_runs.specs.Roster.{all_members}
use Rattle.world_run.proofs.replaying.replay_with.Given as goal

abbrev pub ghosts-run_all-N-RunName : goal.ghosts-run_all-N-RunName
ghosts-run_all-N-RunName g a = record { members = all_members (g.M.Seals.key_of a.seals.now); accepts = g.M.Seals.accepts a.seals.now }

abbrev pub ghosts-run_all-N-ClockName : goal.ghosts-run_all-N-ClockName
ghosts-run_all-N-ClockName g a = record { clock = a.start }
