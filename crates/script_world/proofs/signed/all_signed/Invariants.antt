use Rattle.std.proofs.Common.{◌≡◌, take}
use Rattle.script_world.specs.Signed.{all_signed}
use Rattle.script_world.proofs.signed.all_signed.Given as goal

abbrev pub invariant-loop-id : goal.invariant-loop-id
invariant-loop-id g l = l.all.items ≡ all_signed l.fn.handle l.fn.nonce l.fn.bank.cells (take l.id-index l.ids)
