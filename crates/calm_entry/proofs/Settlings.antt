-- The settling of the next row of a ledger, which was put, over a calm service.
use Rattle.std.proofs.Common.{◌≡◌, inl, inr, ℕ, ◌+◌, ◌<◌, List, [], ◌∷◌, ◌++◌, length, sym, subst, ap, ◌∙◌, arith}
use Rattle.std.specs.Prelude.{IsSome}
use Rattle.std.proofs.lemmas.List.{append-nil}
use Rattle.chain_block.specs.declared.meta_block.MetaBlock.{MetaBlock}
use Rattle.chain_block.specs.Entry.{handle_of}
use Rattle.port.specs.declared.key.Key.TheVariants as keys
use Rattle.port.specs.declared.store_answers.Got.{Got}
use Rattle.port.specs.Cause.{MemberCause, Cause}
use Rattle.port.specs.Contents.{Contents, fresh}
use Rattle.port.specs.Link.{Bank}
use Rattle.port.specs.RowForm.{row_bytes}
use Rattle.port.specs.Trace.{Event, AtStore, AtLink, AreHonest, AreFaithful}
use Rattle.catch_up.specs.Says.{IsRowRefused}
use Rattle.op_parts.specs.RoundAsking.{Asking}
use Rattle.op_parts.specs.RoundLaws.{IsOwnCall}
use Rattle.op_parts.specs.RoundRefusal.{first_given, above}
use Rattle.op_parts.specs.RoundSound.{Sound as SoundRound}
use Rattle.op_parts.specs.RoundState.{State as Round}
use Rattle.op_parts.specs.Walk.{Place}
use Rattle.settle.specs.Settling.{Settling, asking, start, top_block}
use Rattle.settle.specs.Sound.{HasFailed, HasWalked, HasLooked, IsBefore, IsAsking}
use Rattle.settle.specs.Says.{IsRefusedInRound, IsRefusedInWalk, IsLast, IsUnsettled, IsRefused, cause_at}
use Rattle.calm.specs.Ledgers.{row_above}
use Rattle.calm_entry.specs.NextSettling.{NextSettling, settling_of, entries_of, with_put}
use Rattle.calm_entry.proofs.LowerLaws.{CutLaws, RowLaws, RoundLaws}
use Rattle.calm_entry.proofs.Keys.{IsQuiet, nothing_changes, put_at_other, still_stands}

-- the calls of a round are quiet
pub quiet_call : (ask : Asking) (past : List Event) (event : Event) → IsOwnCall ask past event → IsQuiet event
quiet_call ask past (AtStore call answer) own = (keys.Row ask.handle own.0, own.2)
quiet_call ask past (AtLink id call heard) own = tt

module _ (cut : CutLaws) (rounds : RoundLaws) (run : NextSettling) where
  abbrev pub settling : Settling
  settling = settling_of run

  abbrev pub block : MetaBlock
  block = settling.block

  abbrev pub WereFaithful : List Event → Bank → Type 0
  WereFaithful past after = AreFaithful run.service.signs run.service.bank past after

  abbrev pub IsOver : Round → List Event → Type 0
  IsOver round past = SoundRound run.service.accepts (asking settling block) round past

  -- a round changes nothing that stands
  pub round_is_quiet : (round : Round) (past : List Event) (contents after : Contents) → IsOver round past → AreHonest contents past after → after ≡ contents
  round_is_quiet round past contents after sound honest =
      nothing_changes contents past after (λ e had. quiet_call (asking settling block) past e (rounds.own run.service.accepts (asking settling block) round past sound e had)) honest

  -- how a round at the row fails after which the rows above were looked for
  abbrev pub NeverFails : Type 0
  NeverFails = (causes : List (ℕ × MemberCause)) (first : List Event) (after : Bank) → HasFailed run.service.accepts settling block causes first
      → IsSome (first_given (above (block.height + 1)) causes) → WereFaithful first after → ⊥

  module _ (never : NeverFails) where
    -- so none was looked for
    not_walked : (causes : List (ℕ × MemberCause)) (place : Place) (past : List Event) (after : Bank) → HasWalked run.service.accepts settling causes place past → WereFaithful past after → ⊥
    not_walked causes place past after walked faithful =
        let both = cut.link run.service.signs run.service.bank after walked.walk walked.first (subst (λ (p : List Event). WereFaithful p after) walked.split faithful) in
        never causes walked.first both.0 walked.failed walked.further both.1

    pub not_looked : (causes : List (ℕ × MemberCause)) (place : Place) (got : Got) (past : List Event) (after : Bank) → HasLooked run.service.accepts settling causes place got past → WereFaithful past after → ⊥
    not_looked causes place got past after looked faithful =
        not_walked causes place looked.0 after looked.2 (subst (λ (p : List Event). WereFaithful p after) looked.1 faithful)

    at_row : (place : Place) (past : List Event) (after : Bank) → IsBefore run.service.accepts settling place past → WereFaithful past after → (place ≡ start settling) × (past ≡ [])
    at_row place past after (inl is) faithful = is
    at_row place past after (inr reached) faithful = absurd (not_looked reached.causes place _ past after reached.looked faithful)

    -- a round is the first one
    pub first_round : (round : Round) (place : Place) (past : List Event) (after : Bank) → IsAsking run.service.accepts settling round place past → WereFaithful past after
        → (place ≡ start settling) × IsOver round past
    first_round round place past after asked faithful =
        let both = cut.link run.service.signs run.service.bank after asked.calls asked.before (subst (λ (p : List Event). WereFaithful p after) asked.split faithful) in
        let begun = at_row place asked.before both.0 asked.began both.1 in
        let all : past ≡ asked.calls = asked.split ∙ ap (λ (b : List Event). asked.calls ++ b) begun.1 ∙ append-nil asked.calls in (
          begun.0,
          subst (IsOver round) (sym all) (subst (λ (p : Place). SoundRound run.service.accepts (asking settling (top_block settling p)) round asked.calls) begun.0 asked.sound),
        )

    -- no row is refused
    module _ (rows : RowLaws) where
      below_stands : (number : ℕ) (event : Event) (after : Contents) (cause : Cause) → number < block.height → AreHonest (with_put run.service run.entry) (event ∷ []) after
          → IsRowRefused settling.handle number event cause → ⊥
      below_stands number event after cause less honest refused =
          let entries = entries_of run.service run.entry in
          let at = rows.at entries number less in
          let same = put_at_other run.service.contents (handle_of run.entry) (length entries) (length at.0) (fresh (row_bytes (row_above entries run.entry)))
          (λ is. let is_number = at.4 in absurd (omega (arith, less, is, is_number))) in
          let stands = still_stands run.service.accepts run.service.configs run.service.contents (with_put run.service run.entry) (handle_of run.entry) at.0 at.1
          ((run.calm.stand (handle_of run.entry)).each at.0 at.2 at.1 at.3) same in
          rows.kept run.service.accepts run.service.configs (with_put run.service run.entry) after (handle_of run.entry) at.0 at.1 event cause stands honest
          (subst (λ (n : ℕ). IsRowRefused (handle_of run.entry) n event cause) (sym at.4) refused)

      not_in_round : (past : List Event) (contents : Contents) (after : Bank) (cause : Cause) → AreHonest (with_put run.service run.entry) past contents → WereFaithful past after
          → IsRefusedInRound run.service.accepts settling past cause → ⊥
      not_in_round [] contents after cause honest faithful is = is
      not_in_round (event ∷ past) contents after cause honest faithful (round, place, asked, id, below, refused) =
          let older = cut.store (with_put run.service run.entry) contents (event ∷ []) past honest in
          let called = cut.link run.service.signs run.service.bank after (event ∷ []) past faithful in
          let first = first_round round place past called.0 asked called.1 in
          let same = round_is_quiet round past (with_put run.service run.entry) older.0 first.1 older.1 in
          let height : (top_block settling place).height ≡ block.height = ap (λ (p : Place). (top_block settling p).height) first.0 in
          below_stands _ event contents cause (omega (arith, below, height)) (subst (λ (c : Contents). AreHonest c (event ∷ []) contents) same older.2) refused

      not_in_walk : (past : List Event) (after : Bank) (cause : Cause) → WereFaithful past after → IsRefusedInWalk run.service.accepts settling past cause → ⊥
      not_in_walk [] after cause faithful is = is
      not_in_walk (event ∷ past) after cause faithful (causes, place, got, walked, is, refused) =
          not_walked causes place past after walked (subst (λ (e : Event). WereFaithful (e ∷ past) after) is faithful)

      -- the round at the row failed, and this is why
      pub record Failed (cause : Cause) : Type 0 where
        pub causes : List (ℕ × MemberCause)
        pub calls : List Event
        pub after : Bank
        pub failed : HasFailed run.service.accepts settling block causes calls
        pub faithful : WereFaithful calls after
        pub is : cause ≡ cause_at settling.configs (block.height + 1) causes

      last_faithful : (place : Place) (causes : List (ℕ × MemberCause)) (calls past : List Event) (after : Bank) → IsLast settling place causes calls past → WereFaithful past after → WereFaithful calls after
      last_faithful place causes calls past after (inl last) faithful = subst (λ (p : List Event). WereFaithful p after) last.0 faithful
      last_faithful place causes calls past after (inr last) faithful = subst (λ (p : List Event). WereFaithful p after) last.0 faithful

      for_failure : (past : List Event) (after : Bank) (cause : Cause) → WereFaithful past after → IsUnsettled run.service.accepts settling past cause → Failed cause
      for_failure past after cause faithful (place, causes, has, is, tells) =
          let all = last_faithful place causes (has.calls ++ has.before) past after has.last faithful in
          let both = cut.link run.service.signs run.service.bank after has.calls has.before all in
          let begun = at_row place has.before both.0 has.began both.1 in
          record {
            causes = causes;
            calls = has.calls;
            after = after;
            failed = subst (λ (p : Place). HasFailed run.service.accepts settling (top_block settling p) causes has.calls) begun.0 has.failed;
            faithful = subst (λ (p : List Event). WereFaithful p after) (ap (λ (b : List Event). has.calls ++ b) begun.1 ∙ append-nil has.calls) all;
            is = is ∙ ap (λ (p : Place). cause_at settling.configs p.height causes) begun.0;
          }

      pub why_refused : (cause : Cause) → IsRefused run.service.accepts settling run.calls cause → Failed cause
      why_refused cause (inl is) = absurd (not_in_round run.calls run.later.contents run.later.bank cause run.honest run.faithful is)
      why_refused cause (inr (inl is)) = absurd (not_in_walk run.calls run.later.bank cause run.faithful is)
      why_refused cause (inr (inr is)) = for_failure run.calls run.later.bank cause run.faithful is
