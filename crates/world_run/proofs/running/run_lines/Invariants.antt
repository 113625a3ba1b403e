use Rattle.std.proofs.Common.{◌≤◌, take, drop}
use Rattle.fault_script.specs.Seen.{commands_of}
use Rattle.world_run.specs.Printing.{RanAndPut, Wrote}
use Rattle.script_runs.specs.Runs.{AllCanRun}
use Rattle.world_run.proofs.running.run_lines.Given as goal

abbrev pub invariant-loop-line : goal.invariant-loop-line
invariant-loop-line g l =
    RanAndPut g.M.Scheme.Signer.Signer.key_of g.M.Scheme.Signer.Signer.left_of g.M.Scheme.Signer.Signer.size_of g.M.Scheme.Signer.Signer.signs g.M.Scheme.Scheme.fits g.M.Scheme.Checker.Checker.accepts (g.M.Seals.key_of l.seals) (g.M.Seals.left_of l.seals) g.N.RunName.accepts
    (commands_of (take l.line-index l.lines)) l.fn.world l.world (Wrote (g.K.Sink.written l.fn.sink) (g.K.Sink.written l.sink))
    × AllCanRun (commands_of (drop l.line-index l.lines))
    × (g.K.Sink.fault_count l.fn.sink ≤ g.K.Sink.fault_count l.sink)
