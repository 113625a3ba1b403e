use Rattle.std.proofs.Common.{refl, rules, arith}
use Rattle.blob_store.proofs.Calls.{logged}
use Rattle.blob_store.proofs.memory.Memory.get.Goals as goal

pub returns-then-self-gt0-clause-step : goal.returns-then-self-gt0-clause-step
returns-then-self-gt0-clause-step c source forks is = logged source forks _ _ _ _ (search rules) (record {
  calls = search rules;
  later = omega arith;
  failed = λ e. omega arith;
  honest = λ same. absurd (omega (arith, same));
  follows = record { contents = refl; due = omega (arith, c.if-self-gt0.true); in_turn = λ a b. cc a; same_source = refl; same_forks = refl };
})

pub returns-then-lies-2-clause-step : goal.returns-then-lies-2-clause-step
returns-then-lies-2-clause-step c source forks is = logged source forks _ _ _ _ (search rules) (record {
  calls = search rules;
  later = omega arith;
  failed = λ e. cc e;
  honest = λ same. absurd (omega (arith, same));
  follows = record { contents = (search rules, refl); due = omega arith; in_turn = λ a b. omega (arith, c.if-self-gt0.false); same_source = refl; same_forks = refl };
})

pub returns-in_default-clause-step : goal.returns-in_default-clause-step
returns-in_default-clause-step c source forks is = logged source forks _ _ _ _ (search rules) (record {
  calls = search rules;
  later = omega arith;
  failed = λ e. cc e;
  honest = λ same. (search rules, refl);
  follows = record { contents = (search rules, refl); due = omega arith; in_turn = λ a b. omega (arith, c.if-self-gt0.false); same_source = refl; same_forks = refl };
})

pub returns-then-lies-3-clause-step : goal.returns-then-lies-3-clause-step
returns-then-lies-3-clause-step c source forks is = logged source forks _ _ _ _ (search rules) (record {
  calls = search rules;
  later = omega arith;
  failed = λ e. cc e;
  honest = λ same. absurd (omega (arith, same));
  follows = record { contents = (search rules, refl); due = omega arith; in_turn = λ a b. omega (arith, c.if-self-gt0.false); same_source = refl; same_forks = refl };
})

pub returns-else-lies-3-clause-step : goal.returns-else-lies-3-clause-step
returns-else-lies-3-clause-step c source forks is = logged source forks _ _ _ _ (search rules) (record {
  calls = search rules;
  later = omega arith;
  failed = λ e. cc e;
  honest = λ same. (search rules, refl);
  follows = record { contents = (search rules, refl); due = omega arith; in_turn = λ a b. omega (arith, c.if-self-gt0.false); same_source = refl; same_forks = refl };
})
