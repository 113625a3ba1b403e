use Rattle.statement.proofs.Fields.{bytes_found}
use Rattle.statement.proofs.reading.read_bytes.Goals as goal

pub returns-clause-read : goal.returns-clause-read
returns-clause-read c =
    let t = c.in-Some.ensures in
    bytes_found c.args.number c.args.cursor.now t.0 c.take.new.self c.in-Some.bytes.now t.1 t.2 t.3
