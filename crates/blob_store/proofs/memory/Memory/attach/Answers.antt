use Rattle.std.proofs.Common.{refl, rules, arith}
use Rattle.blob_store.proofs.Calls.{logged, unlogged}
use Rattle.blob_store.proofs.memory.Memory.attach.Goals as goal

pub returns-then-self-gt0-clause-step : goal.returns-then-self-gt0-clause-step
returns-then-self-gt0-clause-step c source forks = logged source forks _ _ _ _ (search rules) (record {
  calls = search rules;
  later = omega arith;
  failed = λ e. omega arith;
  honest = λ same. absurd (omega (arith, same));
  follows = record { contents = refl; due = omega (arith, c.if-self-gt0.true); in_turn = λ a b. cc a; same_source = refl; same_forks = refl };
})

pub returns-in_default-clause-step : goal.returns-in_default-clause-step
returns-in_default-clause-step c source forks = logged source forks _ _ _ _ (search rules) (record {
  calls = search rules;
  later = omega arith;
  failed = λ e. cc e;
  honest = λ same. (search rules, refl);
  follows = record { contents = (search rules, refl); due = omega arith; in_turn = λ a b. omega (arith, c.if-self-gt0.false); same_source = refl; same_forks = refl };
})

pub returns-then-is_err-4-clause-step : goal.returns-then-is_err-4-clause-step
returns-then-is_err-4-clause-step c source forks = unlogged source forks _ _ _ _ refl (search rules) (record {
  calls = search rules;
  later = omega arith;
  failed = λ e. cc e;
  honest = λ same. search rules;
  follows = record { contents = search rules; due = omega arith; in_turn = λ a b. cc b; same_source = refl; same_forks = refl };
})

pub returns-clause-step : goal.returns-clause-step
returns-clause-step c source forks = logged source forks _ _ _ _ (search rules) (record {
  calls = search rules;
  later = omega arith;
  failed = λ e. cc e;
  honest = λ same. (c.in-Some.found.now, search rules, search rules);
  follows = record { contents = (c.in-Some.found.now, search rules, search rules); due = omega arith; in_turn = λ a b. omega (arith, c.if-self-gt0.false); same_source = refl; same_forks = refl };
})
