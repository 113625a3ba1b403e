-- The receipt of the next row of a ledger, which was put over a calm service, is attached to it.
use Rattle.std.proofs.Common.{◌≡◌, ◌≢◌, inl, inr, ℕ, List, [], length, refl, subst, ap, ◌∙◌}
use Rattle.chain_block.specs.declared.meta_block.MetaBlock.{MetaBlock}
use Rattle.chain_block.specs.Entry.{handle_of}
use Rattle.statement.specs.Mark.{AreMarks}
use Rattle.statement.specs.Receipt.{Receipt, receipt_bytes}
use Rattle.port.specs.declared.key.Key.{Key}
use Rattle.port.specs.declared.key.Key.TheVariants as keys
use Rattle.port.specs.declared.store_answers.Attached.{Attached}
use Rattle.port.specs.declared.store_answers.Attached.TheVariants as attaches
use Rattle.port.specs.Contents.{Contents, put, fresh, with_attached}
use Rattle.port.specs.RowForm.{row_bytes}
use Rattle.port.specs.Store.{Attach, WasAttached, IsHonest}
use Rattle.port.specs.Stored.{Stored}
use Rattle.port.specs.Trace.{Event, AreHonest}
use Rattle.op_parts.specs.RoundAsking.{claim}
use Rattle.op_parts.specs.RoundOutcome.{held}
use Rattle.op_parts.specs.RoundState.{State as Round}
use Rattle.op_parts.specs.Walk.{Place}
use Rattle.settle.specs.Settling.{asking, top_block, members_of}
use Rattle.settle.specs.Sound.{HasAttached}
use Rattle.settle.specs.Says.{IsSettled, IsLastSettled}
use Rattle.calm.specs.Ledgers.{row_above}
use Rattle.calm.specs.Appending.{append_next, receipt_of}
use Rattle.calm.specs.Storing.{TakesBytes, with_row}
use Rattle.calm_entry.specs.NextSettling.{NextSettling, settling_of, entries_of, with_put}
use Rattle.calm_entry.proofs.LowerLaws.{CutLaws, RowLaws, RoundLaws}
use Rattle.calm_entry.proofs.Keys.{put_here}
use Rattle.calm_entry.proofs.Settlings.{WereFaithful, IsOver, NeverFails, not_looked, first_round, round_is_quiet}

-- bytes were attached, since memory wasn't wanted
took_bytes : (contents after : Contents) (key : Key) (stored : Stored) (bytes : List ℕ) (answer : Attached) → answer ≢ attaches.NoMemory → TakesBytes contents key stored bytes answer after
    → after ≡ put contents key (with_attached stored bytes)
took_bytes contents after key stored bytes attaches.Done had takes = takes
took_bytes contents after key stored bytes attaches.NoMemory had takes = absurd (had refl)
took_bytes contents after key stored bytes attaches.Absent had takes = absurd takes
took_bytes contents after key stored bytes attaches.Failed had takes = absurd takes

module _ (cut : CutLaws) (rounds : RoundLaws) (rows : RowLaws) (run : NextSettling) (never : NeverFails cut rounds run) where
  -- All were asked in a round at the row, whose receipt was attached to it.
  pub record Attaches (chain : List MetaBlock) : Type 0 where
    pub own : chain ≡ []
    pub round : Round
    pub calls : List Event
    pub sound : IsOver cut rounds run round calls
    pub all : round.asked ≡ length (members_of (settling_of run))
    pub marks : AreMarks round.marks
    pub faithful : WereFaithful cut rounds run calls run.later.bank
    pub stands : run.later.contents ≡ with_row run.service.contents (handle_of run.entry) (entries_of run.service run.entry) run.entry
        (receipt_of (append_next run.service.configs (handle_of run.entry) (entries_of run.service run.entry) run.entry) round.marks)

  by_attach : (chain : List MetaBlock) (receipt : Receipt) (place : Place) (attached : Attached) → chain ≡ place.blocks → attached ≢ attaches.NoMemory
      → HasAttached run.service.accepts (settling_of run) receipt place attached run.calls → Attaches chain
  by_attach chain receipt place attached is had_memory (before, has, newest) =
      let below = entries_of run.service run.entry in
      let faithful : WereFaithful cut rounds run before run.later.bank = subst (λ (p : List Event). WereFaithful cut rounds run p run.later.bank) newest run.faithful in
      let first = first_round cut rounds run never has.round place before run.later.bank has.asked faithful in
      let honest = subst (λ (p : List Event). AreHonest (with_put run.service run.entry) p run.later.contents) newest run.honest in
      let same = round_is_quiet cut rounds run has.round before (with_put run.service run.entry) honest.0 first.1 honest.1 in
      let key = keys.Row (handle_of run.entry) (length below) in
      let made : receipt ≡ receipt_of (append_next run.service.configs (handle_of run.entry) below run.entry) has.round.marks =
      has.made ∙ ap (λ (p : Place). let r : Receipt = record { statement = held (claim (asking (settling_of run) (top_block (settling_of run) p))); marks = has.round.marks } in r) first.0 in
      let at_key : keys.Row (handle_of run.entry) (top_block (settling_of run) place).height ≡ key = ap (λ (p : Place). keys.Row (handle_of run.entry) (top_block (settling_of run) p).height) first.0 in
      let answered : IsHonest (with_put run.service run.entry) (Attach key (receipt_bytes receipt)) (WasAttached attached) run.later.contents =
      subst (λ (k : Key). IsHonest (with_put run.service run.entry) (Attach k (receipt_bytes receipt)) (WasAttached attached) run.later.contents) at_key
      (subst (λ (c : Contents). IsHonest c (Attach (keys.Row (handle_of run.entry) (top_block (settling_of run) place).height) (receipt_bytes receipt)) (WasAttached attached) run.later.contents) same honest.2) in
      let row = fresh (row_bytes (row_above below run.entry)) in
      let takes = rows.attached (with_put run.service run.entry) run.later.contents key row (receipt_bytes receipt) attached (put_here run.service.contents (handle_of run.entry) (length below) row) answered in
      record {
        own = is ∙ ap (λ (p : Place). p.blocks) first.0;
        round = has.round;
        calls = before;
        sound = first.1;
        all = has.all;
        marks = subst (λ (r : Receipt). AreMarks r.marks) made has.written;
        faithful = faithful;
        stands = took_bytes (with_put run.service run.entry) run.later.contents key row (receipt_bytes receipt) attached had_memory takes
            ∙ ap (λ (r : Receipt). with_row run.service.contents (handle_of run.entry) below run.entry r) made;
      }

  pub how_settled : (chain : List MetaBlock) (receipt : Receipt) → IsSettled run.service.accepts (settling_of run) run.calls chain receipt → Attaches chain
  how_settled chain receipt settled = by_last settled.last
    where
      by_last : IsLastSettled run.service.accepts (settling_of run) run.calls chain receipt → Attaches chain
      by_last (inl (place, attached, is, had_memory, newest)) = by_attach chain receipt place attached is had_memory newest
      by_last (inr (causes, place, stored, looked)) = absurd (not_looked cut rounds run never causes place _ run.calls run.later.bank looked run.faithful)
