use Rattle.std.proofs.Common.{◌≡◌, drop}
use Rattle.statement.specs.Config.{weight_of}
use Rattle.statement.proofs.config.Config.weight.Given as goal

abbrev pub invariant-loop-member : goal.invariant-loop-member
invariant-loop-member l = weight_of (drop l.member-index l.self) l.id ≡ weight_of l.self l.id
