-- A round, member by member, where each answers alike and goes on alike.
use Rattle.std.proofs.Common.{◌≡◌, inl, inr, ℕ, zero, suc, ◌+◌, ◌<◌, ◌≤◌, ltb, List, [], ◌∷◌, ◌++◌, slice_get, Option, Some, None, refl, sym, subst, ap, ◌∙◌, arith}
use Rattle.std.proofs.lemmas.Bool.{cases_Bool, ltb-true, ltb-false}
use Rattle.tail_map.specs.declared.tail_row.TailRow.{TailRow}
use Rattle.statement.specs.declared.member.Member.{Member}
use Rattle.statement.specs.declared.view_block.ViewBlock.{ViewBlock}
use Rattle.statement.specs.Ids.{RisesFrom, IsRising}
use Rattle.statement.specs.Config.{ids}
use Rattle.statement.specs.Mark.{Content as Mark}
use Rattle.port.specs.Cause.{MemberCause}
use Rattle.port.specs.Contents.{Contents}
use Rattle.port.specs.Heard.{Heard}
use Rattle.port.specs.Link.{Bank}
use Rattle.port.specs.Trace.{Event, AreHonest, AreFaithful}
use Rattle.catch_up.specs.OwnCalls.{append_of}
use Rattle.view_ledger.specs.Receipts.{Accepts}
use Rattle.op_parts.specs.RoundAsking.{Asking, claim}
use Rattle.op_parts.specs.RoundOutcome.{Outcome, Marked, Blamed, IsOutcome}
use Rattle.op_parts.specs.declared.round_stage.Stage.{Stage}
use Rattle.op_parts.specs.declared.round_stage.Stage.TheVariants.{First, CatchUp, Again, Ended}
use Rattle.op_parts.specs.RoundState.{State}
use Rattle.op_parts.specs.RoundTurn.{WasBehind, Ends}
use Rattle.op_parts.specs.RoundSound.{IsMember, AreAsked, AtStage, Sound}
use Rattle.calm.specs.Members.{Signs, IsAble, IsAt, AreAble, WereAsked, WentOn}
use Rattle.calm.specs.Appending.{AsksOnce}
use Rattle.calm.proofs.OneAnswer.{Asked}
use Rattle.calm.proofs.Turns.{Between, between, NotBehind, turn, was_heard, not_caught_up}

-- ---- members have ids of their own

above_first : (before : ℕ) (members : List Member) (place : ℕ) (member : Member) → RisesFrom (Some before) (ids members) → IsAt members place member → before < member.id
above_first before [] place member rising is = absurd cc
above_first before (first ∷ members) zero member rising is =
    let same : first ≡ member = cc in
    subst (λ (m : Member). before < m.id) same (ltb-true before first.id rising.0)
above_first before (first ∷ members) (suc place) member rising is =
    let lo : before < first.id = ltb-true before first.id rising.0 in
    let hi : first.id < member.id = above_first first.id members place member rising.1 is in
    omega (arith, lo, hi)

pub rise : (before : Option ℕ) (members : List Member) (low high : ℕ) (one other : Member) → RisesFrom before (ids members) → low < high → IsAt members low one → IsAt members high other → one.id < other.id
rise before [] low high one other rising less is is' = absurd cc
rise before (first ∷ members) low zero one other rising less is is' = absurd (omega arith)
rise before (first ∷ members) zero (suc high) one other rising less is is' =
    let same : first ≡ one = cc in
    subst (λ (m : Member). m.id < other.id) same (above_first first.id members high other rising.1 is')
rise before (first ∷ members) (suc low) (suc high) one other rising less is is' = rise (Some first.id) members low high one other rising.1 (omega arith) is is'

-- ---- who was asked

module _ (view : ViewBlock) (config : List Member) (rising : IsRising (ids config)) (old new : List TailRow) (left : ℕ) (bank : Bank) where
  pub none_asked : WereAsked bank view config new left 0 bank
  none_asked = record { each = λ place member below is. absurd (omega arith); others = λ id other. refl }

  -- the member whose turn it is hasn't been asked before
  pub still_able : (before asked : ℕ) (middle : Bank) (member : Member) → AreAble bank view config old before → WereAsked bank view config new left asked middle → IsAt config asked member → IsAble middle view config old before member
  still_able before asked middle member able were is =
      let one = able.each asked member is in
      record {
        told = one.told;
        known = were.others member.id (λ place other below there same. absurd (let less : other.id < member.id = rise None config place asked other member rising below there is in omega (arith, less, same))) ∙ one.known;
        me = one.me;
        first = one.first;
        active = one.active;
        stamps = one.stamps;
        signatures = one.signatures;
      }

  -- and then it has
  pub one_more : (asked : ℕ) (middle after : Bank) (member : Member) → WereAsked bank view config new left asked middle → IsAt config asked member → WentOn middle view config new left member after
      → WereAsked bank view config new left (suc asked) after
  one_more asked middle after member were is went = record {
    each = λ place one below there.
        elim (cases_Bool (ltb place asked)) [
          | inl earlier ↦
              let lower : place < asked = ltb-true place asked earlier in
              let able = were.each place one lower there in
              let less : one.id < member.id = rise None config place asked one member rising lower there is in
              let same : after one.id ≡ middle one.id = went.others one.id (λ e. absurd (omega (arith, less, e))) in
              record {
                told = able.told;
                known = same ∙ able.known;
                me = able.me;
                first = able.first;
                active = able.active;
                stamps = able.stamps;
                signatures = able.signatures;
              }
          | inr later ↦
              let upper : asked ≤ place = ltb-false place asked later in
              let now : place ≡ asked = omega (arith, below, upper) in
              let here : slice_get config asked ≡ Some one = ap (slice_get config) (sym now) ∙ there in
              let same : member ≡ one = (let s : Some member ≡ Some one = sym is ∙ here in cc) in
              subst (λ (m : Member). IsAble after view config new left m) same went.able
        ];
    others = λ id other.
        went.others id (other asked member (omega arith) is) ∙ were.others id (λ place one below there. other place one (omega arith) there);
  }

-- ---- the round

module _ (accepts : Accepts) (signs : Signs) (ask : Asking) (view : ViewBlock) (old new : List TailRow) (left : ℕ) (bank : Bank)
    (rising : IsRising (ids ask.members)) (able : AreAble bank view ask.members old (left + 1))
    (Good : Outcome → Type 0) (Lists : ℕ → List Mark → List (ℕ × MemberCause) → Type 0) where
  -- each answers alike and goes on alike
  abbrev pub Alike : Type 0
  Alike = (b after : Bank) (member : Member) (heard : Heard) (outcome : Outcome) → Asked signs b view ask.members old (left + 1) member (append_of ask.handle ask.block) heard after
      → IsOutcome accepts (claim ask) member.key heard outcome → Good outcome × WentOn b view ask.members new left member after

  abbrev pub Never : Type 0
  Never = (b : Bank) (member : Member) → IsAble b view ask.members old (left + 1) member → NotBehind signs b member.id ask

  -- the lists with one member more
  abbrev pub Grows : Type 0
  Grows = ((n : ℕ) (member : Member) (sig : List ℕ) (marks : List Mark) (reasons : List (ℕ × MemberCause)) → IsAt ask.members n member → Good (Marked sig) → Lists n marks reasons
      → Lists (suc n) (marks ++ record { id = member.id; sig = sig } ∷ []) reasons)
      × ((n : ℕ) (member : Member) (cause : MemberCause) (marks : List Mark) (reasons : List (ℕ × MemberCause)) → IsAt ask.members n member → Good (Blamed cause) → Lists n marks reasons
      → Lists (suc n) marks (reasons ++ (member.id, cause) ∷ []))

  abbrev Quiet : List Event → Type 0
  Quiet past = (contents after : Contents) → AreHonest contents past after → after ≡ contents

  -- what the calls to the first members led to
  pub record Led (n : ℕ) (marks : List Mark) (reasons : List (ℕ × MemberCause)) (past : List Event) (after : Bank) : Type 0 where
    pub were : WereAsked bank view ask.members new left n after
    pub lists : Lists n marks reasons
    pub quiet : Quiet past

  record Stepped (n : ℕ) (marks : List Mark) (reasons : List (ℕ × MemberCause)) (outcome : Outcome) (past : List Event) (after : Bank) : Type 0 where
    good : Good outcome
    were : WereAsked bank view ask.members new left (suc n) after
    lists : Lists n marks reasons
    quiet : Quiet past

  stepped : Alike → Never → (n : ℕ) (member : Member) (marks : List Mark) (reasons : List (ℕ × MemberCause)) (calls before past : List Event) (outcome : Outcome) (after : Bank)
      → IsAt ask.members n member → past ≡ calls ++ before → Ends accepts ask member calls outcome → AreFaithful signs bank past after
      → ((middle : Bank) → AreFaithful signs bank before middle → Led n marks reasons before middle) → Stepped n marks reasons outcome past after
  stepped alike never n member marks reasons calls before past outcome after is split ends faithful older =
      let b = between signs bank calls before after (subst (λ (p : List Event). AreFaithful signs bank p after) split faithful) in
      let led = older b.middle b.older_calls in
      let can = still_able view ask.members rising old new left bank (left + 1) n b.middle member able led.were is in
      let t = turn accepts signs ask b.middle member (never b.middle member can) calls outcome after ends b.newer_calls in
      let was : Asked signs b.middle view ask.members old (left + 1) member (append_of ask.handle ask.block) t.heard after =
      record { able = can; went = was_heard accepts signs ask b.middle member t.heard outcome t.is; faithful = t.faithful } in
      let one = alike b.middle after member t.heard outcome was t.is in
      record {
        good = one.0;
        were = one_more view ask.members rising old new left bank n b.middle after member led.were is one.1;
        lists = led.lists;
        quiet = λ contents last honest.
            let now = subst (λ (p : List Event). AreHonest contents p last) split honest in
            led.quiet contents last (subst (λ (c : List Event). AreHonest contents (c ++ before) last) t.calls_are now);
      }

  pub leads : Alike → Never → Grows → Lists zero [] [] → (n : ℕ) (marks : List Mark) (reasons : List (ℕ × MemberCause)) (past : List Event) (after : Bank)
      → AreAsked accepts ask n marks reasons past → AreFaithful signs bank past after → Led n marks reasons past after
  leads alike never grows none zero marks reasons past after asked faithful =
      let same : after ≡ bank = subst (λ (p : List Event). AreFaithful signs bank p after) asked.2 faithful in
      record {
        were = subst (WereAsked bank view ask.members new left zero) (sym same) (none_asked view ask.members rising old new left bank);
        lists = subst (λ (m : List Mark). Lists zero m reasons) (sym asked.0) (subst (λ (r : List (ℕ × MemberCause)). Lists zero [] r) (sym asked.1) none);
        quiet = λ contents last honest. subst (λ (p : List Event). AreHonest contents p last) asked.2 honest;
      }
  leads alike never grows none (suc n) marks reasons past after (member, calls, before, is, split, inl side) faithful =
      let s = stepped alike never n member side.1 reasons calls before past (Marked side.0) after is split side.3 faithful
      (λ middle f. leads alike never grows none n side.1 reasons before middle side.4 f) in
      record {
        were = s.were;
        lists = subst (λ (m : List Mark). Lists (suc n) m reasons) (sym side.2) (grows.0 n member side.0 side.1 reasons is s.good s.lists);
        quiet = s.quiet;
      }
  leads alike never grows none (suc n) marks reasons past after (member, calls, before, is, split, inr side) faithful =
      let s = stepped alike never n member marks side.1 calls before past (Blamed side.0) after is split side.3 faithful
      (λ middle f. leads alike never grows none n marks side.1 before middle side.4 f) in
      record {
        were = s.were;
        lists = subst (λ (r : List (ℕ × MemberCause)). Lists (suc n) marks r) (sym side.2) (grows.1 n member side.0 marks side.1 is s.good s.lists);
        quiet = s.quiet;
      }

  -- how a round that was begun goes on
  pub asks_once : Alike → Never → Grows → Lists zero [] [] → (state : State) (past : List Event) (after : Bank) → Sound accepts ask state past → AreFaithful signs bank past after → AsksOnce state.stage
  asks_once alike never grows none state past after sound faithful = at_stage state.stage sound.at
    where
      parts : Between signs bank sound.calls sound.before after
      parts = between signs bank sound.calls sound.before after (subst (λ (p : List Event). AreFaithful signs bank p after) sound.split faithful)

      led : Led state.asked state.marks state.reasons sound.before parts.middle
      led = leads alike never grows none state.asked state.marks state.reasons sound.before parts.middle sound.asked parts.older_calls

      not_behind : (member : Member) (from : ℕ) (later : List Event) → IsMember ask state.asked member → WasBehind ask member.id from later sound.calls → ⊥
      not_behind member from later is was =
          let can = still_able view ask.members rising old new left bank (left + 1) state.asked parts.middle member able led.were is in
          not_caught_up accepts signs ask parts.middle member (never parts.middle member can) from later sound.calls after was parts.newer_calls

      at_stage : (stage : Stage) → AtStage ask state.asked stage sound.calls → AsksOnce stage
      at_stage First at = tt
      at_stage Ended at = tt
      at_stage (CatchUp catch_up) at = not_behind at.0 at.1 at.2 at.3 at.4
      at_stage Again at = not_behind at.0 at.1 at.2 at.3 at.4
