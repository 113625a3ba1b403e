use Rattle.std.proofs.Common.{ap}
use Rattle.endorser_cell.specs.CellBank.{bank_view}
use Rattle.roster_bank.specs.Counting.{served_count}
use Rattle.script_world.specs.Running.{world_of}
use Rattle.world_run.proofs.Openings.{began_at, opens_append, opens_latest, opens_new, turns_at}
use Rattle.world_run.proofs.RunLines.{on_ok, same_goes}
use Rattle.world_run.proofs.client_lines.begin.Goals as goal

pub returns-in-New-clause-opens : goal.returns-in-New-clause-opens
returns-in-New-clause-opens g c =
    opens_new c.args.world.now c.begin_new.new.self c.begin_new.result c.args.client c.args.op.now c.args.act.now c.in-New.client c.in-New.label c.in-New.payload
    c.bytes.result.now c.bytes-in-New.result.now c.in-New.is c.bytes.ensures c.bytes-in-New.ensures c.begin_new.ensures.opened

pub returns-in-Append-clause-opens : goal.returns-in-Append-clause-opens
returns-in-Append-clause-opens g c =
    opens_append c.args.world.now c.begin_append.new.self c.begin_append.result c.args.client c.args.op.now c.args.act.now c.in-Append.client c.in-Append.label c.in-Append.height c.in-Append.payload
    c.bytes-in-Append.result.now c.bytes-in-Append-2.result.now c.in-Append.is c.bytes-in-Append.ensures c.bytes-in-Append-2.ensures c.begin_append.ensures.opened

pub returns-in-Latest-clause-opens : goal.returns-in-Latest-clause-opens
returns-in-Latest-clause-opens g c =
    opens_latest c.args.world.now c.begin_latest.new.self c.begin_latest.result c.args.client c.args.op.now c.args.act.now c.in-Latest.client c.in-Latest.label
    c.bytes-in-Latest.result.now c.in-Latest.is c.bytes-in-Latest.ensures c.begin_latest.ensures.opened

pub returns-in-At-clause-began : goal.returns-in-At-clause-began
returns-in-At-clause-began g c = began_at c.args.world.now c.begin_at.new.self c.begin_at.result c.args.client c.args.op.now c.args.act.now c.in-At.client c.in-At.label c.in-At.height c.in-At.is c.begin_at.ensures.rest

pub returns-in-At-clause-turns : goal.returns-in-At-clause-turns
returns-in-At-clause-turns g c =
    turns_at c.args.world.now c.begin_at.new.self c.begin_at.result c.args.client c.args.op.now c.args.act.now (served_count (bank_view g.G.Signer.Signer.key_of g.G.Signer.Signer.left_of g.G.Checker.Checker.accepts c.args.world.now.state.link))
    c.in-At.client c.in-At.label c.in-At.height c.in-At.is c.begin_at.ensures.rest

pub returns-in-At-clause-goes : goal.returns-in-At-clause-goes
returns-in-At-clause-goes g c = on_ok c.begin_at.result (same_goes (world_of c.args.world.now) (world_of c.begin_at.new.self) (ap world_of c.begin_at.ensures.rest))
