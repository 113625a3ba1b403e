-- What a step of a round makes of a settling.
use Rattle.std.proofs.Common.{◌≡◌, ◌⊎◌, inl, inr, ℕ, ◌+◌, ◌-◌, ◌≤◌, ◌<◌, Bool, true, if◌then◌else◌, List, [], ◌∷◌, ◌++◌, length, map, take, Option, Some, None, refl, sym, ◌∙◌, subst, ap, arith, suc}
use Rattle.std.specs.Prelude.{IsSome, is_some, Result, Ok, Err, IsErr}
use Rattle.std.specs.Str.{bytes_eq}
use Rattle.std.proofs.Math.Seq.{take-length}
use Rattle.std.proofs.lemmas.List.{append-nil, length-map}
use Rattle.std.proofs.lemmas.Slice.Eq.{bytes_eq-Decides}
use Rattle.chain_block.specs.declared.meta_block.MetaBlock.{MetaBlock}
use Rattle.nim_base.specs.declared.no_memory.NoMemory.{NoMemory}
use Rattle.statement.specs.declared.member.Member.{Member}
use Rattle.statement.specs.declared.statement.Statement.TheVariants.{Held}
use Rattle.statement.specs.Config.{ids, id_of as member_id, quorum, weight_together, IsConfig}
use Rattle.statement.specs.Mark.{Content as Mark, id_of, AreMarks, IsSignature}
use Rattle.statement.specs.Receipt.{Receipt, receipt_bytes}
use Rattle.port.specs.declared.store_answers.Got.TheVariants as gots
use Rattle.port.specs.Cause.{Cause, cause_of}
use Rattle.port.specs.Store.{PutNew, Get, Attach}
use Rattle.port.specs.Trace.{Event, AtStore, AtLink, Had}
use Rattle.view_ledger.specs.Receipts.{Accepts, IsAccepted, IsAcceptedIn}
use Rattle.view_ledger.specs.Views.{newest_tail, newest_config, newest_below, number_of, tail_at}
use Rattle.op_parts.specs.declared.round_progress.RoundProgress.{RoundProgress}
use Rattle.op_parts.specs.declared.round_progress.RoundProgress.TheVariants as rounds
use Rattle.op_parts.specs.declared.round_refusal.Contention.{Contention}
use Rattle.op_parts.specs.RoundAsking.{Asking, claim}
use Rattle.op_parts.specs.RoundLaws.{IsOwnCall, IsMarkShown, AreParted}
use Rattle.op_parts.specs.RoundOutcome.{held}
use Rattle.op_parts.specs.RoundRefusal.{first_given, above}
use Rattle.op_parts.specs.RoundSound.{Sound as SoundRound, Says as SaysRound}
use Rattle.op_parts.specs.RoundState.{State as Round}
use Rattle.op_parts.specs.Walk.{Place, block_tail}
use Rattle.settle.specs.declared.progress.SettleProgress.{SettleProgress}
use Rattle.settle.specs.declared.progress.SettleProgress.TheVariants.{More, Refused}
use Rattle.settle.specs.Settling.{Settling, members_of, asking, start, top_block}
use Rattle.settle.specs.State.{Stage, AtRound, AtWalk, AtAttach, AtEnd}
use Rattle.settle.specs.Sound.{HasFailed, HasWalked, HasReachedTop, IsBefore, IsAsking, HasEnded, IsAt, got_at}
use Rattle.settle.specs.Says.{IsRefused, cause_at}
use Rattle.settle.specs.Leads.{MayLack, Says}
use Rattle.settle.specs.Turn.{AreEnough, Lacks, TakesMarks, TakesReasons, TakesAsked, TakesRound, receipt_of, walk_from}
use Rattle.settle.proofs.Lists.{Within, newer, later, order, all_more}
use Rattle.settle.proofs.LowerLaws.{Laws, Limits, reason_id}
use Rattle.settle.proofs.Tops.{IsTop, before_top, top_tail, top_height, no_blocks}
use Rattle.settle.proofs.Unsettled.{unsettled}

-- a stage and an answer are sound
abbrev pub Led : Accepts → Settling → List Event → Stage → Result SettleProgress NoMemory → Type 0
Led accepts settling past stage answer = IsAt accepts settling past stage × Says accepts settling past answer

pub led_by : (accepts : Accepts) (settling : Settling) (past : List Event) (next stage : Stage) (told answer : Result SettleProgress NoMemory) → stage ≡ next → answer ≡ told
    → Led accepts settling past next told → Led accepts settling past stage answer
led_by accepts settling past next stage told answer at says led = (
  subst (λ (s : Stage). IsAt accepts settling past s) (sym at) led.0,
  subst (λ (r : Result SettleProgress NoMemory). Says accepts settling past r) (sym says) led.1,
)

pub says_lack : (accepts : Accepts) (settling : Settling) (past : List Event) (answer : Result SettleProgress NoMemory) → IsErr answer → MayLack past → Says accepts settling past answer
says_lack accepts settling past (Ok progress) is may = absurd (cc is)
says_lack accepts settling past (Err wanted) is may = may

-- a chain with members in its newest view has a view
pub some_views : (configs : List (List Member)) → 1 ≤ length (newest_config configs) → 1 ≤ length configs
some_views [] some = absurd (omega (arith, some))
some_views (config ∷ configs) some = omega arith

-- the newest view has its tail
newest_at : (configs : List (List Member)) (n : ℕ) → n + 1 ≡ length configs → tail_at configs n ≡ newest_tail configs
newest_at configs n is = ap newest_tail (ap (λ (m : ℕ). take m configs) is ∙ take-length configs)

newest_number : (configs : List (List Member)) (n : ℕ) → n + 1 ≡ length configs → number_of configs (newest_tail configs) ≡ Some n
unfolding newest_below
newest_number configs n is =
    let same : bytes_eq (tail_at configs n) (newest_tail configs) ≡ true = (bytes_eq-Decides (tail_at configs n) (newest_tail configs)).1 (newest_at configs n is) in
    let all : length configs ≡ suc n = omega (arith, is) in
    ap (λ (m : ℕ). newest_below configs (newest_tail configs) m) all
    ∙ ap (λ (b : Bool). if b then Some n else newest_below configs (newest_tail configs) n) same

-- a receipt that the newest view accepts is accepted
pub newest_accepts : (accepts : Accepts) (configs : List (List Member)) (receipt : Receipt) → 1 ≤ length configs
    → IsAccepted accepts (newest_config configs) (newest_tail configs) receipt → (number : ℕ) × IsAcceptedIn accepts configs number receipt
newest_accepts accepts configs receipt some accepted =
    let at : length configs - 1 + 1 ≡ length configs = omega (arith, some) in (
      length configs - 1,
      (
        ap (λ (v : List ℕ). number_of configs v) accepted.own_view ∙ newest_number configs (length configs - 1) at,
        subst (λ (v : List ℕ). IsAccepted accepts (newest_config configs) v receipt) (sym (newest_at configs (length configs - 1) at)) accepted,
      ),
    )

-- so many ids are there in both lists
parted_count : (all marked blamed : List ℕ) → AreParted all marked blamed → length marked + length blamed ≡ length all
parted_count [] marked blamed parted = omega (arith, ap (λ (l : List ℕ). length l) parted.0, ap (λ (l : List ℕ). length l) parted.1)
parted_count (first ∷ all) marked blamed (inl side) = omega (arith, ap (λ (l : List ℕ). length l) side.1, parted_count all side.0 blamed side.2)
parted_count (first ∷ all) marked blamed (inr side) = omega (arith, ap (λ (l : List ℕ). length l) side.1, parted_count all marked side.0 side.2)

some_marks : (members : List Member) (marks : List Mark) → quorum members ≤ weight_together members (map id_of marks) → 1 ≤ length marks
some_marks members [] enough = absurd (omega (arith, enough))
some_marks members (mark ∷ marks) enough = omega arith

module _ (laws : Laws) (accepts : Accepts) (limits : Limits accepts) (settling : Settling) (config : IsConfig (members_of settling)) where
  abbrev pub IsOver : MetaBlock → Round → List Event → Type 0
  IsOver block round calls = SoundRound accepts (asking settling block) round calls

  views : 1 ≤ length settling.configs
  views = some_views settling.configs config.some

  few_marks : (block : MetaBlock) (round : Round) (calls : List Event) → IsOver block round calls → round.asked ≡ length (members_of settling) → length round.marks ≤ 15
  few_marks block round calls sound all =
      let members = members_of settling in
      let whole = subst (λ (l : List ℕ). AreParted l (map id_of round.marks) (map reason_id round.reasons))
      (ap (λ (n : ℕ). take n (ids members)) (all ∙ sym (length-map members member_id)) ∙ take-length (ids members))
      (laws.each accepts (asking settling block) round calls sound) in
      let both = parted_count (ids members) (map id_of round.marks) (map reason_id round.reasons) whole in
      let marks : length (map id_of round.marks) ≡ length round.marks = length-map round.marks id_of in
      let size : length (ids members) ≡ length members = length-map members member_id in
      omega (arith, both, marks, size, config.few)

  -- marks that are a quorum make a receipt that can be written
  are_marks : (block : MetaBlock) (round : Round) (calls : List Event) → IsOver block round calls → round.asked ≡ length (members_of settling)
      → quorum (members_of settling) ≤ weight_together (members_of settling) (map id_of round.marks) → AreMarks round.marks
  are_marks block round calls sound all enough = record {
    rising = (laws.accepted accepts (asking settling block) round calls sound config all enough).rising;
    each = all_more (IsMarkShown accepts (asking settling block) calls) (λ (m : Mark). IsSignature m.sig)
        (λ m shown. limits shown.1.key _ m.sig shown.4) round.marks (laws.marks accepts (asking settling block) round calls sound);
    some = some_marks (members_of settling) round.marks enough;
    few = few_marks block round calls sound all;
  }

  too_few : (block : MetaBlock) (round : Round) (calls : List Event) → IsOver block round calls → round.asked ≡ length (members_of settling)
      → (AreEnough settling.configs round.marks → ⊥) → weight_together (members_of settling) (map id_of round.marks) < quorum (members_of settling)
  too_few block round calls sound all not_enough = by (order (weight_together (members_of settling) (map id_of round.marks)) (quorum (members_of settling)))
    where
      by : (weight_together (members_of settling) (map id_of round.marks) < quorum (members_of settling))
          ⊎ (quorum (members_of settling) ≤ weight_together (members_of settling) (map id_of round.marks))
          → weight_together (members_of settling) (map id_of round.marks) < quorum (members_of settling)
      by (inl less) = less
      by (inr enough) = absurd (not_enough (enough, are_marks block round calls sound all enough))

  may_lack : (event : Event) (ask : Asking) (events past : List Event) → IsOwnCall ask events event → MayLack (event ∷ past)
  may_lack (AtStore (Attach key bytes) answer) ask events past own = absurd (cc own.2)
  may_lack (AtStore (Get key) answer) ask events past own = tt
  may_lack (AtStore (PutNew key body) answer) ask events past own = tt
  may_lack (AtLink id call heard) ask events past own = tt

  none_above : (o : Option Contention) → o ≡ None → IsSome o → ⊥
  none_above o none some = absurd (cc (sym (ap (λ (x : Option Contention). is_some x) none) ∙ some))

  module _ (round after : Round) (place : Place) (past : List Event) (event : Event) (asked : IsAsking accepts settling round place past)
      (now : IsOver (top_block settling place) after (event ∷ asked.calls)) (handle : List ℕ) (same : handle ≡ settling.handle) where
    abbrev whole : List Event
    whole = event ∷ past

    abbrev goes : IsAsking accepts settling after place whole
    goes = record {
      calls = event ∷ asked.calls;
      before = asked.before;
      split = ap (λ (p : List Event). event ∷ p) asked.split;
      sound = now;
      began = asked.began;
    }

    ended : HasEnded accepts settling whole
    ended = inl (after, place, goes)

    lacking : MayLack whole
    lacking = may_lack event (asking settling (top_block settling place)) (event ∷ asked.calls) past
        (laws.own accepts (asking settling (top_block settling place)) after (event ∷ asked.calls) now event (inl refl))

    top : IsTop settling place
    top = before_top laws accepts settling place asked.before asked.began

    within : Within (event ∷ asked.calls) whole
    within e had = subst (λ (p : List Event). Had p e) (sym goes.split) (newer (event ∷ asked.calls) asked.before e had)

    lack : (stage : Stage) (answer : Result SettleProgress NoMemory) → Lacks stage answer → Led accepts settling whole stage answer
    lack stage answer is = (subst (λ (s : Stage). IsAt accepts settling whole s) (sym is.0) ended, says_lack accepts settling whole answer is.1 lacking)

    -- the marks make a receipt
    by_marks : after.asked ≡ length (members_of settling) → AreEnough settling.configs after.marks → (stage : Stage) (answer : Result SettleProgress NoMemory)
        → TakesMarks settling.configs handle after.marks place stage answer → Led accepts settling whole stage answer
    by_marks all enough stage answer (inl on) =
        let receipt : Receipt = receipt_of settling.configs handle after.marks place in
        let made : receipt ≡ record { statement = held (claim (asking settling (top_block settling place))); marks = after.marks } =
        ap (λ (h : List ℕ). let r : Receipt = record { statement = Held (newest_tail settling.configs) h place.tail place.height; marks = after.marks } in r) same
        ∙ ap (λ (t : List ℕ). let r : Receipt = record { statement = Held (newest_tail settling.configs) settling.handle t place.height; marks = after.marks } in r) (top_tail settling place top)
        ∙ ap (λ (n : ℕ). let r : Receipt = record { statement = Held (newest_tail settling.configs) settling.handle (block_tail (top_block settling place)) n; marks = after.marks } in r) (top_height settling place top) in
        let good = newest_accepts accepts settling.configs receipt views
        (subst (λ (r : Receipt). IsAccepted accepts (members_of settling) (newest_tail settling.configs) r) (sym made)
        (laws.accepted accepts (asking settling (top_block settling place)) after (event ∷ asked.calls) now config all enough.0)) in
        led_by accepts settling whole (AtAttach receipt (receipt_bytes receipt) place) stage (Ok More) answer on.0 on.1 (
          (refl, record { round = after; asked = goes; all = all; made = made; written = enough.1; accepted = ((same, refl, refl), good) }),
          tt,
        )
    by_marks all enough stage answer (inr is) = lack stage answer is

    failed : after.asked ≡ length (members_of settling) → (AreEnough settling.configs after.marks → ⊥) → HasFailed accepts settling (top_block settling place) after.reasons (event ∷ asked.calls)
    failed all not_enough = record {
      round = after;
      sound = now;
      all = all;
      few = too_few (top_block settling place) after (event ∷ asked.calls) now all not_enough;
      reasons = refl;
    }

    top_had : HasReachedTop accepts settling place asked.before → Had whole (got_at settling place.height gots.None)
    top_had reached =
        subst (λ (p : List Event). Had p (got_at settling place.height gots.None)) (sym goes.split)
        (later (event ∷ asked.calls) asked.before (got_at settling place.height gots.None)
        (subst (λ (p : List Event). Had p (got_at settling place.height gots.None)) (sym reached.looked.1) (inl refl)))

    none_had : (place.blocks ≡ [] → first_given (above place.height) after.reasons ≡ None) → IsBefore accepts settling place asked.before
        → IsSome (first_given (above place.height) after.reasons) → Had whole (got_at settling place.height gots.None)
    none_had no_further (inl begun) some =
        absurd (none_above (first_given (above place.height) after.reasons) (no_further (ap (λ (p : Place). p.blocks) begun.0)) some)
    none_had no_further (inr reached) some = top_had reached

    refusing : after.asked ≡ length (members_of settling) → (AreEnough settling.configs after.marks → ⊥) → (place.blocks ≡ [] → first_given (above place.height) after.reasons ≡ None)
        → (cause : Cause) → cause ≡ cause_at settling.configs place.height after.reasons → IsRefused accepts settling whole cause
    refusing all not_enough no_further cause is =
        inr (inr (unsettled laws accepts settling views place after.reasons whole (event ∷ asked.calls) asked.before (failed all not_enough) asked.began
        (inl (goes.split, no_further)) within (none_had no_further asked.began) cause is))

    begun_nothing : place.blocks ≡ [] → IsBefore accepts settling place asked.before → asked.before ≡ []
    begun_nothing none (inl begun) = begun.1
    begun_nothing none (inr reached) = absurd (let few : length place.blocks ≡ 0 = ap (λ (l : List MetaBlock). length l) none in omega (arith, few, reached.some))

    -- a walk begins
    walk_begins : after.asked ≡ length (members_of settling) → (AreEnough settling.configs after.marks → ⊥) → place.blocks ≡ [] → IsSome (first_given (above place.height) after.reasons)
        → HasWalked accepts settling after.reasons (start settling) whole
    walk_begins all not_enough none further =
        let begins : place ≡ start settling = no_blocks settling place top none in
        record {
          walk = [];
          first = whole;
          split = refl;
          failed = subst (λ (p : List Event). HasFailed accepts settling settling.block after.reasons p)
              (sym (goes.split ∙ ap (λ (b : List Event). (event ∷ asked.calls) ++ b) (begun_nothing none asked.began) ∙ append-nil (event ∷ asked.calls)))
              (subst (λ (p : Place). HasFailed accepts settling (top_block settling p) after.reasons (event ∷ asked.calls)) begins (failed all not_enough));
          further = subst (λ (p : Place). IsSome (first_given (above p.height) after.reasons)) begins further;
          walked = refl;
        }

    by_reasons : after.asked ≡ length (members_of settling) → (AreEnough settling.configs after.marks → ⊥) → (stage : Stage) (answer : Result SettleProgress NoMemory)
        → TakesReasons settling.configs handle after.reasons place stage answer → Led accepts settling whole stage answer
    by_reasons all not_enough stage answer (inl on) =
        let begins : place ≡ start settling = no_blocks settling place top on.0 in
        led_by accepts settling whole (AtWalk (walk_from handle place) after.reasons) stage (Ok More) answer on.2.0 on.2.1 (
          (same, subst (λ (p : Place). HasWalked accepts settling after.reasons (walk_from handle p).place whole) (sym begins) (walk_begins all not_enough on.0 on.1)),
          tt,
        )
    by_reasons all not_enough stage answer (inr is) =
        led_by accepts settling whole AtEnd stage (Ok (Refused is.1.0)) answer is.1.1.0 is.1.1.1
        (ended, refusing all not_enough is.0 (cause_of is.1.0) is.1.2)

    by_asked : after.asked ≡ length (members_of settling) → (stage : Stage) (answer : Result SettleProgress NoMemory)
        → TakesAsked settling.configs handle after place stage answer → Led accepts settling whole stage answer
    by_asked all stage answer (inl enough) = by_marks all enough.0 stage answer enough.1
    by_asked all stage answer (inr few) = by_reasons all few.0 stage answer few.1

    -- a step of a round
    pub by_round : (progress : Result RoundProgress NoMemory) → SaysRound (asking settling (top_block settling place)) asked.calls event progress
        → (progress ≡ Ok rounds.Asked → after.asked ≡ length (members_of settling)) → (stage : Stage) (answer : Result SettleProgress NoMemory)
        → TakesRound settling.configs handle after place progress stage answer → Led accepts settling whole stage answer
    by_round (Ok rounds.More) says all stage answer takes =
        led_by accepts settling whole (AtRound after place) stage (Ok More) answer takes.0 takes.1 (goes, tt)
    by_round (Ok rounds.Asked) says all stage answer takes = by_asked (all refl) stage answer takes
    by_round (Ok (rounds.Row refusal)) says all stage answer takes =
        led_by accepts settling whole AtEnd stage (Ok (Refused refusal)) answer takes.0 takes.1 (ended, inl (round, place, asked, says.0, says.1, says.2))
    by_round (Err wanted) says all stage answer takes =
        (subst (λ (s : Stage). IsAt accepts settling whole s) (sym takes.0) goes, says_lack accepts settling whole answer takes.1 lacking)
