use Rattle.std.proofs.Common.{arith}
use Rattle.fault_script.specs.Script.{script_of}
use Rattle.nimble.proofs.Saying.{judged, known, says, says_first, says_front, says_plainly}
use Rattle.nimble.proofs.replay.run_replay.Goals as goal

pub returns-in-Ok-clause-known : goal.returns-in-Ok-clause-known
returns-in-Ok-clause-known g c = known c.say.result.0 (script_of c.bytes.result.now) (g.K.Sink.written c.args.sink.now) (g.K.Sink.written c.say.new.sink)
    (g.K.Sink.fault_count c.args.sink.now) (g.K.Sink.fault_count c.say.new.sink) c.say.ensures

pub returns-in-Ok-clause-done : goal.returns-in-Ok-clause-done
returns-in-Ok-clause-done g c =
    let ends = rw c.bytes.ensures at c.say.ensures in
    λ is. (
      says 0 c.say.result.0 (g.S.Source.left c.args.source.now) (g.K.Sink.written c.args.sink.now) (g.K.Sink.written c.say.new.sink) c.in-Ok.text.bytes
          (g.K.Sink.fault_count c.args.sink.now) (g.K.Sink.fault_count c.say.new.sink) c.in-Ok.ensures.text ends (omega arith) is,
      judged (g.S.Source.left c.args.source.now) (g.S.Source.left c.read_input.new.source) c.in-Ok.text.bytes c.in-Ok.ensures.text c.in-Ok.ensures.read,
    )

pub returns-in-Ok-clause-plain : goal.returns-in-Ok-clause-plain
returns-in-Ok-clause-plain g c =
    let ends = rw c.bytes.ensures at c.say.ensures in
    λ is. says_plainly (g.S.Source.left c.args.source.now) (g.K.Sink.written c.args.sink.now) (g.K.Sink.written c.say.new.sink)
    (says 0 c.say.result.0 (g.S.Source.left c.args.source.now) (g.K.Sink.written c.args.sink.now) (g.K.Sink.written c.say.new.sink) c.in-Ok.text.bytes
    (g.K.Sink.fault_count c.args.sink.now) (g.K.Sink.fault_count c.say.new.sink) c.in-Ok.ensures.text ends (omega arith) is)

pub returns-in-Ok-clause-bad_script : goal.returns-in-Ok-clause-bad_script
returns-in-Ok-clause-bad_script g c =
    let ends = rw c.bytes.ensures at c.say.ensures in
    λ is. (
      says 2 c.say.result.0 (g.S.Source.left c.args.source.now) (g.K.Sink.written c.args.sink.now) (g.K.Sink.written c.say.new.sink) c.in-Ok.text.bytes
          (g.K.Sink.fault_count c.args.sink.now) (g.K.Sink.fault_count c.say.new.sink) c.in-Ok.ensures.text ends (omega arith) is,
      judged (g.S.Source.left c.args.source.now) (g.S.Source.left c.read_input.new.source) c.in-Ok.text.bytes c.in-Ok.ensures.text c.in-Ok.ensures.read,
    )

pub returns-in-Ok-clause-exhibit : goal.returns-in-Ok-clause-exhibit
returns-in-Ok-clause-exhibit g c =
    let ends = rw c.bytes.ensures at c.say.ensures in
    λ is. (
      says 3 c.say.result.0 (g.S.Source.left c.args.source.now) (g.K.Sink.written c.args.sink.now) (g.K.Sink.written c.say.new.sink) c.in-Ok.text.bytes
          (g.K.Sink.fault_count c.args.sink.now) (g.K.Sink.fault_count c.say.new.sink) c.in-Ok.ensures.text ends (omega arith) is,
      judged (g.S.Source.left c.args.source.now) (g.S.Source.left c.read_input.new.source) c.in-Ok.text.bytes c.in-Ok.ensures.text c.in-Ok.ensures.read,
    )

pub returns-in-Ok-clause-write_fault : goal.returns-in-Ok-clause-write_fault
returns-in-Ok-clause-write_fault g c =
    let ends = rw c.bytes.ensures at c.say.ensures in
    λ is.
    let front = says_front c.say.result.0 (g.S.Source.left c.args.source.now) (g.K.Sink.written c.args.sink.now) (g.K.Sink.written c.say.new.sink) c.in-Ok.text.bytes
    (g.K.Sink.fault_count c.args.sink.now) (g.K.Sink.fault_count c.say.new.sink) c.in-Ok.ensures.text ends is in
    (front.0, front.1, judged (g.S.Source.left c.args.source.now) (g.S.Source.left c.read_input.new.source) c.in-Ok.text.bytes c.in-Ok.ensures.text c.in-Ok.ensures.read)

pub returns-in-Ok-clause-no_memory : goal.returns-in-Ok-clause-no_memory
returns-in-Ok-clause-no_memory g c =
    let ends = rw c.bytes.ensures at c.say.ensures in
    λ is. says_first c.say.result.0 (g.S.Source.left c.args.source.now) (g.S.Source.left c.read_input.new.source) (g.K.Sink.written c.args.sink.now) (g.K.Sink.written c.say.new.sink) c.in-Ok.text.bytes
    (g.K.Sink.fault_count c.args.sink.now) (g.K.Sink.fault_count c.say.new.sink) c.in-Ok.ensures.text c.in-Ok.ensures.read ends is
