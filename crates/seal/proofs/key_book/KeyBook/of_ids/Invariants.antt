-- The signers so far are those of the first ids.
use Rattle.std.proofs.Common.{◌≡◌, take}
use Rattle.seal.proofs.key_book.KeyBook.of_ids.Given as goal

abbrev pub invariant-loop-id : goal.invariant-loop-id
invariant-loop-id l = l.signers.items ≡ take l.id-index l.ids
