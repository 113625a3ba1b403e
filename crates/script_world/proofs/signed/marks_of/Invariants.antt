use Rattle.std.proofs.Common.{◌≡◌, map}
use Rattle.script_world.specs.Signed.{mark_of}
use Rattle.script_world.proofs.signed.marks_of.Given as goal

abbrev pub invariant-loop-signed : goal.invariant-loop-signed
invariant-loop-signed l = l.marks.items ≡ map mark_of l.yielded
