use Rattle.std.proofs.Common.{◌≡◌, drop}
use Rattle.statement.specs.Config.{key_of}
use Rattle.statement.proofs.config.Config.key.Given as goal

abbrev pub invariant-loop-member : goal.invariant-loop-member
invariant-loop-member l = key_of (drop l.member-index l.self) l.id ≡ key_of l.self l.id
