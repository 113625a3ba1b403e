use Rattle.std.proofs.Common.{◌≡◌, drop, take, None}
use Rattle.std.specs.List.{AllByRecursion}
use Rattle.statement.specs.Ids.{first_fall}
use Rattle.statement.specs.Config.{ids, IsMember}
use Rattle.statement.proofs.config.first_fall.Given as goal

abbrev pub invariant-loop-member : goal.invariant-loop-member
invariant-loop-member l = record {
  fall : first_fall l.before (ids (drop l.member-index l.members)) ≡ first_fall None (ids l.members);
  each : AllByRecursion IsMember (take l.member-index l.members);
}
