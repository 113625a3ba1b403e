use Rattle.std.proofs.Common.{List, ℕ, ◌<◌, length, ap, sym, subst}
use Rattle.std.specs.Prelude.{Result}
use Rattle.nim_base.specs.declared.no_memory.NoMemory.{NoMemory}
use Rattle.settle.specs.declared.progress.SettleProgress.{SettleProgress}
use Rattle.view_ledger.specs.Views.{newest_config}
use Rattle.op_parts.specs.RoundState.{calls_left as round_calls}
use Rattle.settle.specs.State.{State, Stage, stage_of, calls_from, calls_left}
use Rattle.settle.specs.Turn.{TakesRound}
use Rattle.settle.proofs.Falling.{round_falls}
use Rattle.settle.proofs.Stepping.{carried}
use Rattle.settle.proofs.settle.Settle.ask.Goals as goal

pub returns-clause-call : goal.returns-clause-call
returns-clause-call g c = λ live.
    let call = c.step-progress.ensures.call live in (
      call.0,
      c.step-progress.new.self,
      c.step-progress.result,
      call.1,
      call.2,
      c.step-progress.ensures.asked,
      carried (λ (h : List ℕ) (s : Stage) (a : Result SettleProgress NoMemory). TakesRound c.args.chain.now.configs h c.step-progress.new.self c.args.top c.step-progress.result s a)
          _ _ _ _ _ _ (ap (λ (s : State). s.handle) c.self.view_is) (ap (λ (s : State). s.stage) c.take.ensures.taken) c.take.ensures.answer c.of_round-turn.ensures.takes,
    )

pub returns-clause-falls : goal.returns-clause-falls
returns-clause-falls g c = λ live.
    let members : ℕ = length (newest_config c.args.chain.now.configs) in
    let less = round_falls members c.args.chain.now.configs c.self.inside.handle c.args.round c.step-progress.new.self c.args.top (c.step-progress.ensures.falls live)
    c.step-progress.result (stage_of c.of_round-turn.result.stage) c.of_round-turn.result.answer c.of_round-turn.ensures.takes in
    subst (λ (s : State). calls_left members s < calls_from members c.args.top.blocks (round_calls members c.args.round)) (sym c.take.ensures.taken) less
