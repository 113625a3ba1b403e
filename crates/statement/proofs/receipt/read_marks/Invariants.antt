use Rattle.std.proofs.Common.{◌≡◌, ◌-◌, None}
use Rattle.statement.specs.Mark.{id_of}
use Rattle.statement.specs.Reading.{each_at, mark_at}
use Rattle.statement.proofs.Loop.{with_front}
use Rattle.statement.proofs.receipt.read_marks.Given as goal

abbrev pub invariant-loop : goal.invariant-loop
invariant-loop l = with_front l.marks.items (each_at mark_at id_of (l.number - l.counter) l.before l.cursor) ≡ each_at mark_at id_of l.number None l.fn.cursor
