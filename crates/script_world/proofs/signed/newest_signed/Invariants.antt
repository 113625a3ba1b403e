use Rattle.std.proofs.Common.{◌≡◌, take}
use Rattle.script_world.specs.Signed.{newest_signed}
use Rattle.script_world.proofs.signed.newest_signed.Given as goal

abbrev pub invariant-loop-line : goal.invariant-loop-line
invariant-loop-line l = l.newest ≡ newest_signed l.fn.handle l.fn.nonce l.fn.id (take l.line-index l.lines)
