use Rattle.std.proofs.Common.{arith}
use Rattle.std.proofs.lemmas.Bool.Decides.{nat_tests}
use Rattle.statement.proofs.IdsLemmas.{fits}
use Rattle.statement.proofs.config.Config.of.Goals as goal

pub returns-in_err-from_slice-clause-no_memory : goal.returns-in_err-from_slice-clause-no_memory
returns-in_err-from_slice-clause-no_memory c = λ _. fits c.args.members.now c.first_fall.result (grind (arith, nat_tests)) c.if-members-gt-MAX_MEMBERS.false c.in_default.is c.first_fall.ensures.fall c.first_fall.ensures.each

pub invariant_of-result : goal.invariant_of-result
invariant_of-result c = rw c.in_ok-from_slice.ensures.items (fits c.args.members.now c.first_fall.result (grind (arith, nat_tests)) c.if-members-gt-MAX_MEMBERS.false c.in_default.is c.first_fall.ensures.fall c.first_fall.ensures.each)

pub returns-clause-config : goal.returns-clause-config
returns-clause-config c = rw c.in_ok-from_slice.ensures.items (fits c.args.members.now c.first_fall.result (grind (arith, nat_tests)) c.if-members-gt-MAX_MEMBERS.false c.in_default.is c.first_fall.ensures.fall c.first_fall.ensures.each)
