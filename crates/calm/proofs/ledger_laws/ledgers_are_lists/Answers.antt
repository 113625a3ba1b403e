use Rattle.std.proofs.Common.{refl}
use Rattle.std.specs.Prelude.{bytes_eq}
use Rattle.std.proofs.lemmas.Bool.{false_from_ne_true}
use Rattle.std.proofs.lemmas.Slice.Eq.{bytes_eq-Decides}
use Rattle.calm.proofs.NextRows.{tail_push, no_tail}
use Rattle.calm.proofs.StoreAnswers.{split_at}
use Rattle.calm.proofs.ledger_laws.ledgers_are_lists.Goals as goal

pub returns-clause-at : goal.returns-clause-at
returns-clause-at c = λ entries height within. split_at entries height within

pub returns-clause-tail : goal.returns-clause-tail
returns-clause-tail c = λ below entry. tail_push below entry

pub returns-clause-none : goal.returns-clause-none
returns-clause-none c = no_tail

pub returns-clause-own : goal.returns-clause-own
returns-clause-own c = λ ledgers handle entry. rw ((bytes_eq-Decides handle handle).1 refl) refl

pub returns-clause-others : goal.returns-clause-others
returns-clause-others c = λ ledgers handle other entry apart. rw (false_from_ne_true (bytes_eq other handle) (λ e. apart ((bytes_eq-Decides other handle).0 e))) refl
