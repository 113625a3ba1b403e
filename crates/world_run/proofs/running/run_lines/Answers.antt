use Rattle.std.proofs.Common.{rules, ap, arith}
use Rattle.world_run.proofs.RunLines.{ran_more, rest_can_run, stopped_at, stopped_in}
use Rattle.world_run.proofs.running.run_lines.Goals as goal

pub returns-in_err-run_and_put-clause-write : goal.returns-in_err-run_and_put-clause-write
returns-in_err-run_and_put-clause-write g c = λ sink.
    let failed = c.in_err-run_and_put.ensures.write (search rules) in (
      omega (arith, c.loop-line.invariant.2, failed.0),
      stopped_in g.M.Scheme.Signer.Signer.key_of g.M.Scheme.Signer.Signer.left_of g.M.Scheme.Signer.Signer.size_of g.M.Scheme.Signer.Signer.signs g.M.Scheme.Scheme.fits g.M.Scheme.Checker.Checker.accepts (g.M.Seals.key_of c.args.seals.now) (g.M.Seals.left_of c.args.seals.now) g.N.RunName.accepts c.args.lines.now c.loop-line.line-index c.line-item.result
          c.args.world.now c.loop-line.world c.run_and_put.new.world (g.K.Sink.written c.args.sink.now) (g.K.Sink.written c.loop-line.sink) (g.K.Sink.written c.run_and_put.new.sink)
          (omega arith) (search rules) c.loop-line.invariant.0 failed.1,
    )

pub returns-in_err-run_and_put-clause-no_memory : goal.returns-in_err-run_and_put-clause-no_memory
returns-in_err-run_and_put-clause-no_memory g c = λ none.
    stopped_at g.M.Scheme.Signer.Signer.key_of g.M.Scheme.Signer.Signer.left_of g.M.Scheme.Signer.Signer.size_of g.M.Scheme.Signer.Signer.signs g.M.Scheme.Scheme.fits g.M.Scheme.Checker.Checker.accepts (g.M.Seals.key_of c.args.seals.now) (g.M.Seals.left_of c.args.seals.now) g.N.RunName.accepts c.args.lines.now c.loop-line.line-index
    c.args.world.now c.loop-line.world (g.K.Sink.written c.args.sink.now) (g.K.Sink.written c.loop-line.sink) (g.K.Sink.written c.run_and_put.new.sink)
    (ap g.K.Sink.written (c.in_err-run_and_put.ensures.no_memory (search rules))) c.loop-line.invariant.0

pub loop-line-preserved : goal.loop-line-preserved
loop-line-preserved g c = (
  ran_more g.M.Scheme.Signer.Signer.key_of g.M.Scheme.Signer.Signer.left_of g.M.Scheme.Signer.Signer.size_of g.M.Scheme.Signer.Signer.signs g.M.Scheme.Scheme.fits g.M.Scheme.Checker.Checker.accepts (g.M.Seals.key_of c.args.seals.now) (g.M.Seals.left_of c.args.seals.now) g.N.RunName.accepts c.args.lines.now c.loop-line.line-index c.line-item.result
      c.args.world.now c.loop-line.world c.run_and_put.new.world (g.K.Sink.written c.args.sink.now) (g.K.Sink.written c.loop-line.sink) (g.K.Sink.written c.run_and_put.new.sink)
      (omega arith) (search rules) c.loop-line.invariant.0 c.in_ok-run_and_put.ensures.did,
  rest_can_run c.args.lines.now c.loop-line.line-index c.line-item.result (omega arith) c.loop-line.invariant.1,
  omega (arith, c.loop-line.invariant.2, c.run_and_put.ensures.faults),
)
