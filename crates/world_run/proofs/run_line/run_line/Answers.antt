use Rattle.world_run.proofs.RunLines.{raw_append_line, raw_latest_line}
use Rattle.world_run.proofs.run_line.run_line.Goals as goal

pub returns-in-RawAppend : goal.returns-in-RawAppend
returns-in-RawAppend g c =
    raw_append_line g.M.Scheme.Signer.Signer.key_of g.M.Scheme.Signer.Signer.left_of g.M.Scheme.Signer.Signer.size_of g.M.Scheme.Signer.Signer.signs g.M.Scheme.Scheme.fits g.M.Scheme.Checker.Checker.accepts (g.M.Seals.key_of c.args.seals.now) (g.M.Seals.left_of c.args.seals.now) g.N.RunName.accepts
    c.args.world.now c.raw_append.new.world c.raw_append.result c.args.line.now c.in-RawAppend.id c.in-RawAppend.label c.in-RawAppend.height c.in-RawAppend.payload c.in-RawAppend.nonce
    c.bytes-in-RawAppend.result.now c.bytes-in-RawAppend-2.result.now c.in-RawAppend.is c.bytes-in-RawAppend.ensures c.bytes-in-RawAppend-2.ensures c.raw_append.ensures

pub returns-in-RawLatest : goal.returns-in-RawLatest
returns-in-RawLatest g c =
    raw_latest_line g.M.Scheme.Signer.Signer.key_of g.M.Scheme.Signer.Signer.left_of g.M.Scheme.Signer.Signer.size_of g.M.Scheme.Signer.Signer.signs g.M.Scheme.Scheme.fits g.M.Scheme.Checker.Checker.accepts (g.M.Seals.key_of c.args.seals.now) (g.M.Seals.left_of c.args.seals.now) g.N.RunName.accepts
    c.args.world.now c.raw_latest.new.world c.raw_latest.result c.args.line.now c.in-RawLatest.id c.in-RawLatest.label c.in-RawLatest.nonce
    c.bytes-in-RawLatest.result.now c.in-RawLatest.is c.bytes-in-RawLatest.ensures c.raw_latest.ensures
