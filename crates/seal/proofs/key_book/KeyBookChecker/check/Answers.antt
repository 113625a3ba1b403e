-- What the book accepts has the size of a signature.
use Rattle.std.proofs.Common.{sym, ◌∙◌}
use Rattle.seal.specs.BookLaws.{accepted_size}
use Rattle.seal.proofs.key_book.KeyBookChecker.check.Goals as goal

pub returns-clause-size : goal.returns-clause-size
returns-clause-size c good = accepted_size _ _ _ _ (sym c.accepts.ensures ∙ good)
