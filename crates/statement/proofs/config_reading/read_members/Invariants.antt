use Rattle.std.proofs.Common.{◌≡◌, ◌-◌, None}
use Rattle.statement.specs.Config.{id_of}
use Rattle.statement.specs.Reading.{each_at, member_at}
use Rattle.statement.proofs.Loop.{with_front}
use Rattle.statement.proofs.config_reading.read_members.Given as goal

abbrev pub invariant-loop : goal.invariant-loop
invariant-loop l = with_front l.members.items (each_at member_at id_of (l.number - l.counter) l.before l.cursor) ≡ each_at member_at id_of l.number None l.fn.cursor
