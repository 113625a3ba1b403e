use Rattle.std.proofs.Common.{List, ℕ, ◌+◌, ◌<◌, length, ap, sym, subst}
use Rattle.std.specs.Prelude.{Result}
use Rattle.nim_base.specs.declared.no_memory.NoMemory.{NoMemory}
use Rattle.op_parts.specs.RoundRefusal.{causes}
use Rattle.settle.specs.declared.progress.SettleProgress.{SettleProgress}
use Rattle.view_ledger.specs.Views.{newest_config}
use Rattle.op_parts.specs.Walk.{steps_left}
use Rattle.settle.specs.State.{State, Stage, stage_of, calls_above, calls_left}
use Rattle.settle.specs.Turn.{TakesWalk}
use Rattle.settle.proofs.Falling.{walk_falls}
use Rattle.settle.proofs.Stepping.{carried}
use Rattle.settle.proofs.settle.Settle.go_up.Goals as goal

pub returns-clause-call : goal.returns-clause-call
returns-clause-call g c =
    let call = c.step-progress.ensures.call c.requires.ready.0 in (
      call.0,
      c.step-progress.new.self,
      c.step-progress.result,
      call.1,
      call.2,
      c.step-progress.ensures.same,
      carried (λ (h : List ℕ) (s : Stage) (a : Result SettleProgress NoMemory). TakesWalk c.args.chain.now.configs h c.step-progress.new.self (causes c.args.reasons.items) c.step-progress.result s a)
          _ _ _ _ _ _ (ap (λ (s : State). s.handle) c.self.view_is) (ap (λ (s : State). s.stage) c.take.ensures.taken) c.take.ensures.answer c.of_walk-turn.ensures.takes,
    )

pub returns-clause-falls : goal.returns-clause-falls
returns-clause-falls g c =
    let members : ℕ = length (newest_config c.args.chain.now.configs) in
    let less = walk_falls members c.args.chain.now.configs c.self.inside.handle c.args.walk c.step-progress.new.self (causes c.args.reasons.items) c.requires.members
    (c.step-progress.ensures.falls c.requires.ready.0) c.step-progress.result (stage_of c.of_walk-turn.result.stage) c.of_walk-turn.result.answer c.of_walk-turn.ensures.takes in
    subst (λ (s : State). calls_left members s < steps_left c.args.walk + calls_above members) (sym c.take.ensures.taken) less
