-- What the settling of the next row of a ledger ends with, where there is room for it and where there is none.
use Rattle.std.proofs.Common.{◌≡◌, ℕ, ◌+◌, ◌-◌, List, [], length, take, refl, sym, subst, ap, ◌∙◌, arith}
use Rattle.chain_block.specs.declared.meta_block.MetaBlock.{MetaBlock}
use Rattle.chain_block.specs.Entry.{handle_of}
use Rattle.statement.specs.Config.{ids, quorum}
use Rattle.statement.specs.Receipt.{Receipt}
use Rattle.port.specs.Cause.{MemberCause, Cause, Full}
use Rattle.port.specs.Contents.{Contents}
use Rattle.port.specs.Link.{Bank}
use Rattle.port.specs.Trace.{Event}
use Rattle.view_ledger.specs.Views.{newest_config}
use Rattle.op_parts.specs.RoundRefusal.{first_given, above, cause_without_quorum}
use Rattle.settle.specs.Sound.{HasFailed}
use Rattle.settle.specs.Says.{IsSettled, IsRefused}
use Rattle.calm.specs.Appending.{AreReady, ReadyRound, RoundHasRoom, RoundIsFull, append_next}
use Rattle.calm.specs.Calls.{GrowsCalm}
use Rattle.calm.specs.Calm.{IsCalm, newest_block, with_next}
use Rattle.calm_entry.specs.NextSettling.{NextSettling, settling_of, entries_of, IsRoomFor, IsNoRoomFor, IsForFullMap}
use Rattle.calm_entry.proofs.LowerLaws.{CutLaws, RowLaws, ReadyLaws, RoundLaws, AppendLaw}
use Rattle.calm_entry.proofs.Rounds.{all_asked, full_tell_nothing, ids_fit}
use Rattle.calm_entry.proofs.Receipts.{can_be_written}
use Rattle.calm_entry.proofs.Settlings.{WereFaithful, NeverFails, why_refused, block}
use Rattle.calm_entry.proofs.Attaching.{how_settled}

module _ (cut : CutLaws) (rounds : RoundLaws) (rows : RowLaws) (ready : ReadyLaws) (run : NextSettling) where
  -- the round at the row
  abbrev round_of : ReadyRound
  round_of =
      let ask = append_next run.service.configs (handle_of run.entry) (entries_of run.service run.entry) run.entry in
      let view = newest_block run.service.configs in record {
        accepts = run.service.accepts;
        signs = run.service.signs;
        bank = run.service.bank;
        view = view;
        rows = run.service.rows;
        left = run.later.left;
        ask = ask;
        ready = subst (λ (n : ℕ). AreReady run.service.accepts run.service.signs run.service.bank view run.service.rows n ask) run.one_more (ready.ready run.service ask run.calm refl refl);
        next = ready.next run.service (handle_of run.entry) run.entry run.calm run.next;
      }

  -- where there is room, all sign
  module _ (room : IsRoomFor run.service run.entry) where
    has_room : RoundHasRoom round_of
    has_room = ready.room run.service (handle_of run.entry) run.calm room

    never_few : (causes : List (ℕ × MemberCause)) (calls : List Event) (after : Bank) → HasFailed run.service.accepts (settling_of run) (block cut rounds run) causes calls
        → WereFaithful cut rounds run calls after → ⊥
    never_few causes calls after failed faithful =
        let enough = rounds.enough round_of failed.round calls after has_room failed.sound failed.all faithful in
        let few = failed.few in
        absurd (omega (arith, enough, few))

    never_fails : NeverFails cut rounds run
    never_fails causes first after failed further faithful = never_few causes first after failed faithful

    pub has_own : (chain : List MetaBlock) (receipt : Receipt) → IsSettled run.service.accepts (settling_of run) run.calls chain receipt → chain ≡ []
    has_own chain receipt settled = (how_settled cut rounds rows run never_fails chain receipt settled).own

    pub is_calm : AppendLaw → (chain : List MetaBlock) (receipt : Receipt) → IsSettled run.service.accepts (settling_of run) run.calls chain receipt
        → GrowsCalm run.service run.entry run.later
    is_calm law chain receipt settled =
        let how = how_settled cut rounds rows run never_fails chain receipt settled in
        let below = entries_of run.service run.entry in
        let ask = append_next run.service.configs (handle_of run.entry) below run.entry in
        let config = ready.config run.service run.calm in
        let written = can_be_written ready run.service.configs run.service.ledgers run.entry how.round.marks run.calm.views.some run.next how.marks
        (ids_fit run.service.accepts ask how.calls how.round.marks config (rounds.marks run.service.accepts ask how.round how.calls how.sound)) in
        subst (λ (c : Contents). IsCalm (with_next run.service (handle_of run.entry) run.entry c run.later.bank run.later.left)) (sym how.stands)
        (law run.service run.later.left (handle_of run.entry) run.entry how.round how.calls run.later.bank run.calm run.one_more run.next room how.sound how.all how.faithful written)

    pub is_not_refused : (cause : Cause) → IsRefused run.service.accepts (settling_of run) run.calls cause → ⊥
    is_not_refused cause refused =
        let why = why_refused cut rounds run never_fails rows cause refused in
        never_few why.causes why.calls why.after why.failed why.faithful

  -- where there is none, none signs
  module _ (full : IsNoRoomFor run.service run.entry) where
    has_none : RoundIsFull round_of
    has_none = ready.full run.service (handle_of run.entry) run.calm (ap length full.0) full.1

    never_tells : NeverFails cut rounds run
    never_tells causes first after failed further faithful =
        let asked = all_asked run.service.accepts round_of.ask failed.round first failed.sound failed.all in
        let reasons = rounds.reasons round_of failed.round.asked failed.round.marks failed.round.reasons first after has_none asked faithful in
        let none = full_tell_nothing ((block cut rounds run).height + 1) (take failed.round.asked (ids round_of.ask.members)) causes (sym failed.reasons ∙ reasons) in
        absurd (cc)

    pub has_no_receipt : (chain : List MetaBlock) (receipt : Receipt) → IsSettled run.service.accepts (settling_of run) run.calls chain receipt → ⊥
    has_no_receipt chain receipt settled =
        let how = how_settled cut rounds rows run never_tells chain receipt settled in
        let asked = all_asked run.service.accepts round_of.ask how.round how.calls how.sound how.all in
        let none = ap length (rounds.no_mark round_of how.round.asked how.round.marks how.round.reasons how.calls run.later.bank has_none asked how.faithful) in
        let some = how.marks.some in
        absurd (omega (arith, none, some))

    pub is_refused_for_map : (cause : Cause) → IsRefused run.service.accepts (settling_of run) run.calls cause → IsForFullMap cause
    is_refused_for_map cause refused =
        let why = why_refused cut rounds run never_tells rows cause refused in
        let configs = run.service.configs in
        let by_first = rounds.refusal round_of why.failed.round why.calls why.after has_none why.failed.sound why.failed.all why.faithful
        (length configs - 1) (first_given (above ((block cut rounds run).height + 1)) why.causes) in
        let is : cause ≡ Full by_first.0.id =
        why.is ∙ ap (λ (r : List (ℕ × MemberCause)). cause_without_quorum (length configs - 1) (quorum (newest_config configs)) (first_given (above ((block cut rounds run).height + 1)) why.causes) r) (sym why.failed.reasons)
        ∙ by_first.2 in
        (by_first.0.id, is)
