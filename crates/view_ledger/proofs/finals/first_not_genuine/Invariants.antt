use Rattle.std.proofs.Common.{◌≡◌, drop}
use Rattle.view_ledger.specs.Extension.{first_not_genuine}
use Rattle.view_ledger.proofs.finals.first_not_genuine.Given as goal

abbrev pub invariant-loop-member : goal.invariant-loop-member
invariant-loop-member l = first_not_genuine l.roster (drop l.member-index l.members) ≡ first_not_genuine l.roster l.members
