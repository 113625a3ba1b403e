use Rattle.std.proofs.Common.{ℕ, List, [], refl, subst, arith}
use Rattle.settle.specs.Sound.{Sound}
use Rattle.op_entry.specs.declared.found.Found.{Found}
use Rattle.op_entry.specs.Turns.{Begins}
use Rattle.op_entry.proofs.Bounds.{few_calls}
use Rattle.op_entry.proofs.settling.settle.Goals as goal

pub returns-clause-settling : goal.returns-clause-settling
returns-clause-settling c = (
  c.new-settle.result,
  refl,
  subst (λ (f : Found). Begins c.args.chain.now.configs f.row c.new-settle.result) c.found.view_is (record {
    sound = λ accepts. subst (λ (h : List ℕ). Sound accepts (record { handle = h; block = c.found.inside.0.0.metablock; configs = c.args.chain.now.configs }) c.new-settle.result []) c.ledger_of.ensures.ledger (c.new-settle.ensures.sound accepts c.args.chain.now.configs);
    calls = few_calls _ _ _ c.members-members.ensures.config.few c.ledger_of.ensures.height (c.new-settle.ensures.calls _ (omega (arith, c.members-members.ensures.config.some)));
  }),
)
