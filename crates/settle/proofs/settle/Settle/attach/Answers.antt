use Rattle.std.proofs.Common.{◌-◌, List, ℕ, ap, subst}
use Rattle.std.specs.Prelude.{Result}
use Rattle.nim_base.specs.declared.no_memory.NoMemory.{NoMemory}
use Rattle.port.specs.declared.key.Key.TheVariants.{Row as RowKey}
use Rattle.port.specs.Store.{StoreStep, Attach, WasAttached}
use Rattle.settle.specs.declared.progress.SettleProgress.{SettleProgress}
use Rattle.settle.specs.State.{State, Stage}
use Rattle.settle.specs.Turn.{TakesAttached}
use Rattle.settle.proofs.Stepping.{carried}
use Rattle.settle.proofs.settle.Settle.attach.Goals as goal

pub returns-clause-call : goal.returns-clause-call
returns-clause-call g c =
    let attached = c.attach-attached.result in
    let ledger = ap (λ (s : State). s.handle) c.self.view_is in (
      attached,
      subst (λ (h : List ℕ). StoreStep g.S.Store.view c.args.store.now c.attach-attached.new.self (Attach (RowKey h (c.args.top.height - 1)) c.args.bytes.bytes) (WasAttached attached)) ledger
          (subst (λ (n : ℕ). StoreStep g.S.Store.view c.args.store.now c.attach-attached.new.self (Attach (RowKey c.self.inside.handle n) c.args.bytes.bytes) (WasAttached attached)) c.row_height.ensures
          (subst (λ (b : List ℕ). StoreStep g.S.Store.view c.args.store.now c.attach-attached.new.self (Attach (RowKey c.self.inside.handle c.row_height.result) b) (WasAttached attached))
          c.bytes-2.ensures c.attach-attached.ensures)),
      carried (λ (h : List ℕ) (s : Stage) (a : Result SettleProgress NoMemory). TakesAttached c.args.receipt c.args.top attached s a)
          _ _ _ _ _ _ ledger (ap (λ (s : State). s.stage) c.take.ensures.taken) c.take.ensures.answer c.of_attached.ensures.takes,
    )
