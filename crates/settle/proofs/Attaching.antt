-- What an attach makes of a settling.
use Rattle.std.proofs.Common.{◌≡◌, ◌≢◌, inl, inr, ℕ, ◌-◌, List, ◌∷◌, refl, sym, ◌∙◌, subst, ap, arith}
use Rattle.std.specs.Prelude.{Result, Ok}
use Rattle.std.specs.List.{AllByRecursion}
use Rattle.chain_block.specs.declared.meta_block.MetaBlock.{MetaBlock}
use Rattle.nim_base.specs.declared.no_memory.NoMemory.{NoMemory}
use Rattle.statement.specs.Mark.{Content as Mark}
use Rattle.statement.specs.Receipt.{Receipt, receipt_bytes}
use Rattle.port.specs.declared.key.Key.TheVariants as keys
use Rattle.port.specs.declared.store_answers.Attached.{Attached}
use Rattle.port.specs.declared.store_answers.Attached.TheVariants as attaches
use Rattle.port.specs.Store.{Attach, WasAttached}
use Rattle.port.specs.Trace.{Event, AtStore, Had}
use Rattle.view_ledger.specs.Receipts.{Accepts}
use Rattle.op_parts.specs.Attachment.{IsReceiptFor}
use Rattle.op_parts.specs.RoundLaws.{IsMarkShown}
use Rattle.op_parts.specs.Walk.{Place}
use Rattle.settle.specs.declared.progress.SettleProgress.{SettleProgress}
use Rattle.settle.specs.declared.progress.SettleProgress.TheVariants.{Stands}
use Rattle.settle.specs.Settling.{Settling, asking, top_block}
use Rattle.settle.specs.State.{Stage, AtEnd}
use Rattle.settle.specs.Sound.{HasReceipt, HasAttached, HasEnded, IsAt}
use Rattle.settle.specs.Says.{IsRowGiven, IsSettled}
use Rattle.settle.specs.Leads.{MayLack}
use Rattle.settle.specs.Turn.{TakesAttached}
use Rattle.settle.proofs.Lists.{Within, newer, later, all_more}
use Rattle.settle.proofs.LowerLaws.{Laws}
use Rattle.settle.proofs.Tops.{IsTop, before_top, top_height, before_rows}
use Rattle.settle.proofs.Asking.{Led, led_by, says_lack}

pub mark_more : (accepts : Accepts) (settling : Settling) (block : MetaBlock) (some all : List Event) → Within some all → (mark : Mark)
    → IsMarkShown accepts (asking settling block) some mark → IsMarkShown accepts (asking settling block) all mark
mark_more accepts settling block some all more mark shown = (shown.0, shown.1, shown.2, shown.3, shown.4, more _ shown.5)

module _ (laws : Laws) (accepts : Accepts) (settling : Settling) where
  -- the calls of a round that made a receipt
  pub receipt_marks : (all : List Event) (receipt : Receipt) (place : Place) (past : List Event) (has : HasReceipt accepts settling receipt place past) → Within past all
      → AllByRecursion (IsMarkShown accepts (asking settling (top_block settling place)) all) receipt.marks
  receipt_marks all receipt place past has within =
      let block : MetaBlock = top_block settling place in
      let inner : Within has.asked.calls all = λ e had. within e (subst (λ (p : List Event). Had p e) (sym has.asked.split) (newer has.asked.calls has.asked.before e had)) in
      subst (λ (r : Receipt). AllByRecursion (IsMarkShown accepts (asking settling block) all) r.marks) (sym has.made)
      (all_more (IsMarkShown accepts (asking settling block) has.asked.calls) (IsMarkShown accepts (asking settling block) all)
      (λ mark one. mark_more accepts settling block has.asked.calls all inner mark one) has.round.marks
      (laws.marks accepts (asking settling block) has.round has.asked.calls has.asked.sound))

  pub receipt_top : (receipt : Receipt) (place : Place) (past : List Event) → HasReceipt accepts settling receipt place past → IsTop settling place
  receipt_top receipt place past has = before_top laws accepts settling place has.asked.before has.asked.began

  pub receipt_rows : (all : List Event) (receipt : Receipt) (place : Place) (past : List Event) (has : HasReceipt accepts settling receipt place past) → Within past all
      → AllByRecursion (IsRowGiven settling all) place.blocks
  receipt_rows all receipt place past has within =
      before_rows laws accepts settling all place has.asked.before
      (λ e had. within e (subst (λ (p : List Event). Had p e) (sym has.asked.split) (later has.asked.calls has.asked.before e had))) has.asked.began

  module _ (receipt : Receipt) (place : Place) (past : List Event) (has : HasReceipt accepts settling receipt place past) (attached : Attached) (event : Event)
      (is : event ≡ AtStore (Attach (keys.Row settling.handle (place.height - 1)) (receipt_bytes receipt)) (WasAttached attached)) where
    abbrev whole : List Event
    whole = event ∷ past

    newest : HasAttached accepts settling receipt place attached whole
    newest =
        let at : place.height - 1 ≡ (top_block settling place).height = omega (arith, top_height settling place (receipt_top receipt place past has)) in (
          past,
          has,
          ap (λ (e : Event). e ∷ past) (is ∙ ap (λ (h : ℕ). AtStore (Attach (keys.Row settling.handle h) (receipt_bytes receipt)) (WasAttached attached)) at),
        )

    ended : HasEnded accepts settling whole
    ended = inr (inr (receipt, place, attached, newest))

    settled : attached ≢ attaches.NoMemory → IsSettled accepts settling whole place.blocks receipt
    settled had_memory =
        let top = receipt_top receipt place past has in
        record {
          tail = place.tail;
          links = top.links;
          rows = receipt_rows whole receipt place past has (λ e had. inr had);
          accepted = subst (λ (n : ℕ). IsReceiptFor accepts settling.configs (record { handle = settling.handle; tail = place.tail; count = n }) receipt) top.height has.accepted;
          shown = inr (receipt_marks whole receipt place past has (λ e had. inr had));
          last = inl (place, attached, refl, had_memory, newest);
        }

    -- after an attach
    pub by_attach : (stage : Stage) (answer : Result SettleProgress NoMemory) → TakesAttached receipt place attached stage answer → Led accepts settling whole stage answer
    by_attach stage answer (inl (had_memory, (chain, at, says, blocks))) =
        led_by accepts settling whole AtEnd stage (Ok (Stands chain receipt)) answer at says
        (ended, subst (λ (l : List MetaBlock). IsSettled accepts settling whole l receipt) (sym blocks) (settled had_memory))
    by_attach stage answer (inr (wanted, lacks)) = (
      subst (λ (s : Stage). IsAt accepts settling whole s) (sym lacks.0) ended,
      says_lack accepts settling whole answer lacks.1
          (subst (λ (e : Event). MayLack (e ∷ past)) (sym is) (ap (λ (a : Attached). WasAttached a) wanted)),
    )
