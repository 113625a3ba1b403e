use Rattle.std.proofs.Common.{length, refl}
use Rattle.calm.proofs.MemberReads.{no_store, reads}
use Rattle.calm.proofs.WholeRounds.{all_able}
use Rattle.calm.proofs.read_laws.reads_are_signed_alike.Goals as goal

pub returns-clause-each : goal.returns-clause-each
returns-clause-each c = λ r asked events after were faithful. (reads r.accepts r.signs r.bank r.view r.config r.rows r.left r.handle r.nonce r.fits r.is_config r.able asked events after were faithful).each

pub returns-clause-only : goal.returns-clause-only
returns-clause-only c = λ r asked events after were faithful. (reads r.accepts r.signs r.bank r.view r.config r.rows r.left r.handle r.nonce r.fits r.is_config r.able asked events after were faithful).only

pub returns-clause-hold : goal.returns-clause-hold
returns-clause-hold c = λ r asked events after were faithful. (reads r.accepts r.signs r.bank r.view r.config r.rows r.left r.handle r.nonce r.fits r.is_config r.able asked events after were faithful).were

pub returns-clause-all : goal.returns-clause-all
returns-clause-all c = λ r events after were faithful. all_able r.bank after r.view r.config r.rows r.left (length r.config) refl (reads r.accepts r.signs r.bank r.view r.config r.rows r.left r.handle r.nonce r.fits r.is_config r.able (length r.config) events after were faithful).were

pub returns-clause-same : goal.returns-clause-same
returns-clause-same c = λ r asked events contents later were honest. no_store r.config r.handle r.nonce asked events contents later were honest
