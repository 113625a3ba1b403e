-- The signers are those of all ids, and the law of books is said of them.
use Rattle.std.proofs.Common.{◌≡◌, ◌≤◌, ◌↔◌, true, length, sym, subst, ◌∙◌, arith}
use Rattle.std.proofs.lemmas.List.{take_all}
use Rattle.seal.specs.BookLaws.{accepts_just_signed}
use Rattle.seal.specs.KeyBook.{book_accepts, IsSignedByOne}
use Rattle.seal.proofs.key_book.KeyBook.of_ids.Goals as goal

pub returns-clause-accepts : goal.returns-clause-accepts
returns-clause-accepts c key bytes sig =
    let ids = c.args.ids.now in
    let all : length ids ≤ c.loop-id.id-index = omega arith in
    subst (λ held. (book_accepts held key bytes sig ≡ true) ↔ IsSignedByOne ids key bytes sig) (sym (c.loop-id.invariant ∙ take_all _ _ all)) (accepts_just_signed ids key bytes sig)
