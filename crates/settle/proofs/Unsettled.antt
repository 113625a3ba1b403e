-- What the cause says where no quorum stands.
use Rattle.std.proofs.Common.{◌≡◌, ℕ, ◌+◌, ◌-◌, ◌≤◌, ◌<◌, nat_lt, Bool, true, false, if◌then◌else◌, List, [], ◌∷◌, ◌++◌, length, Option, Some, None, refl, sym, ◌∙◌, subst, ap, arith}
use Rattle.std.specs.Prelude.{IsSome, is_some, unwrap_or}
use Rattle.std.specs.List.{AllByRecursion}
use Rattle.std.specs.Option.{option_map, option_or}
use Rattle.chain_block.specs.declared.meta_block.MetaBlock.{MetaBlock}
use Rattle.statement.specs.declared.statement.Statement.{Statement}
use Rattle.statement.specs.Config.{quorum}
use Rattle.port.specs.declared.store_answers.Got.TheVariants as gots
use Rattle.port.specs.Answer.{HasEnded, Stands, Full as MapFull, Refused}
use Rattle.port.specs.Call.{Call}
use Rattle.port.specs.Cause.{MemberCause, WasLost, Denied, OtherTail, IsMemberShown, HadAnswer, Cause, NoQuorum, ViewMoved, Full}
use Rattle.port.specs.Heard.{Heard}
use Rattle.port.specs.Trace.{Event, AtLink, Had}
use Rattle.view_ledger.specs.Receipts.{Accepts}
use Rattle.op_parts.specs.declared.round_refusal.Contention.{Contention}
use Rattle.op_parts.specs.RoundRefusal.{first_given, moved, full, above, contended}
use Rattle.op_parts.specs.RoundSound.{Sound as SoundRound}
use Rattle.op_parts.specs.RoundState.{State as Round}
use Rattle.op_parts.specs.Walk.{Place}
use Rattle.settle.specs.Settling.{Settling, members_of, asking, top_block}
use Rattle.settle.specs.Sound.{HasFailed, IsBefore, got_at}
use Rattle.settle.specs.Says.{IsNewestMember, Tells, IsLast, IsUnsettled, cause_at}
use Rattle.settle.proofs.Lists.{Within, all_more}
use Rattle.settle.proofs.LowerLaws.{Laws}

-- a value that is given first is given for one of the reasons
given_or : {Y : Type 0} (give : ℕ → MemberCause → Option Y) (P : ℕ × MemberCause → Type 0) (reason : ℕ × MemberCause) (rest here : Option Y) (y : Y) → give reason.0 reason.1 ≡ here
    → option_or here rest ≡ Some y → P reason → (rest ≡ Some y → (r : ℕ × MemberCause) × P r × (give r.0 r.1 ≡ Some y)) → (r : ℕ × MemberCause) × P r × (give r.0 r.1 ≡ Some y)
given_or give P reason rest (Some x) y e is one later = (reason, one, e ∙ is)
given_or give P reason rest None y e is one later = later is

given_in : {Y : Type 0} (give : ℕ → MemberCause → Option Y) (P : ℕ × MemberCause → Type 0) (reasons : List (ℕ × MemberCause)) (y : Y) → first_given give reasons ≡ Some y
    → AllByRecursion P reasons → (r : ℕ × MemberCause) × P r × (give r.0 r.1 ≡ Some y)
given_in give P [] y is all = absurd (cc is)
given_in give P (reason ∷ reasons) y is all =
    given_or give P reason (first_given give reasons) (give reason.0 reason.1) y refl is all.0 (λ later. given_in give P reasons y later all.1)

is_moved : (from id : ℕ) (cause : MemberCause) (y : Cause) → moved from id cause ≡ Some y
    → (statement : Statement) × (sig : List ℕ) × (cause ≡ Denied (HasEnded statement sig)) × (y ≡ ViewMoved from id statement sig)
is_moved from id (Denied (HasEnded statement sig)) y is = (statement, sig, refl, sym (ap (λ (o : Option Cause). unwrap_or o y) is))
is_moved from id cause y is = absurd (cc is)

is_full : (id : ℕ) (cause : MemberCause) (y : Cause) → full id cause ≡ Some y → (cause ≡ Denied MapFull) × (y ≡ Full id)
is_full id (Denied MapFull) y is = (refl, sym (ap (λ (o : Option Cause). unwrap_or o y) is))
is_full id cause y is = absurd (cc is)

abbrev IsAbove : ℕ → ℕ → MemberCause → Contention → Type 0
IsAbove first id cause y = (later : ℕ) × (tail : List ℕ) × (cause ≡ Denied (Stands later tail)) × (first < later) × (y ≡ record { member = id; first = first; later = later })

above_by : (first id count : ℕ) (tail : List ℕ) (y : Contention) (less : Bool) → nat_lt first count ≡ less
    → (if less then Some (record { member = id; first = first; later = count }) else None) ≡ Some y → IsAbove first id (Denied (Stands count tail)) y
above_by first id count tail y true e is = (count, tail, refl, grind (arith, e), sym (ap (λ (o : Option Contention). unwrap_or o y) is))
above_by first id count tail y false e is = absurd (cc is)

is_above : (first id : ℕ) (cause : MemberCause) (y : Contention) → above first id cause ≡ Some y → IsAbove first id cause y
is_above first id (Denied (Stands count tail)) y is = above_by first id count tail y (nat_lt first count) refl is
is_above first id cause y is = absurd (cc is)

module _ (settling : Settling) (place : Place) (causes : List (ℕ × MemberCause)) (past : List Event) where
  abbrev pub IsShownHere : ℕ × MemberCause → Type 0
  IsShownHere r = IsNewestMember settling r.0 × IsMemberShown past r.0 r.1

  abbrev need : ℕ
  need = quorum (members_of settling)

  abbrev number : ℕ
  number = length settling.configs - 1

  module _ (views : 1 ≤ length settling.configs) (shown : AllByRecursion IsShownHere causes) (count : length (members_of settling) < length causes + need)
      (none : IsSome (first_given (above place.height) causes) → Had past (got_at settling place.height gots.None)) where
    by_further : (further : Option Contention) → first_given (above place.height) causes ≡ further
        → Tells settling place causes past (unwrap_or (option_map contended further) (NoQuorum need causes))
    by_further (Some y) is =
        let g = given_in (above place.height) IsShownHere causes y is shown in
        let a = is_above place.height g.0.0 g.0.1 y g.2 in
        let had : HadAnswer past g.0.0 (Refused (Stands a.0 a.1)) = subst (λ (c : MemberCause). IsMemberShown past g.0.0 c) a.2 g.1.1 in
        subst (λ (c : Contention). Tells settling place causes past (contended c)) (sym a.4) (
          refl,
          none (ap (λ (o : Option Contention). is_some o) is),
          a.3,
          g.1.0,
          (a.1, had),
        )
    by_further None is = (refl, refl, count, all_more IsShownHere (λ (r : ℕ × MemberCause). IsMemberShown past r.0 r.1) (λ r one. one.1) causes shown, is)

    by_full : (filled : Option Cause) → first_given full causes ≡ filled
        → Tells settling place causes past (unwrap_or (option_or filled (option_map contended (first_given (above place.height) causes))) (NoQuorum need causes))
    by_full (Some y) is =
        let g = given_in full IsShownHere causes y is shown in
        let f = is_full g.0.0 g.0.1 y g.2 in
        subst (λ (c : Cause). Tells settling place causes past c) (sym f.1) (g.1.0, subst (λ (c : MemberCause). IsMemberShown past g.0.0 c) f.0 g.1.1)
    by_full None is = by_further (first_given (above place.height) causes) refl

    by_moved : (ended : Option Cause) → first_given (moved number) causes ≡ ended
        → Tells settling place causes past (unwrap_or (option_or ended (option_or (first_given full causes) (option_map contended (first_given (above place.height) causes)))) (NoQuorum need causes))
    by_moved (Some y) is =
        let g = given_in (moved number) IsShownHere causes y is shown in
        let m = is_moved number g.0.0 g.0.1 y g.2 in
        subst (λ (c : Cause). Tells settling place causes past c) (sym m.3) (omega (arith, views), g.1.0, subst (λ (c : MemberCause). IsMemberShown past g.0.0 c) m.2 g.1.1)
    by_moved None is = by_full (first_given full causes) refl

    pub tells : Tells settling place causes past (cause_at settling.configs place.height causes)
    tells = by_moved (first_given (moved number) causes) refl

module _ (laws : Laws) (accepts : Accepts) (settling : Settling) where
  asked_member : (block : MetaBlock) (round : Round) (calls : List Event) → SoundRound accepts (asking settling block) round calls
      → (id : ℕ) (call : Call) (heard : Heard) → Had calls (AtLink id call heard) → IsNewestMember settling id
  asked_member block round calls sound id call heard had = (laws.own accepts (asking settling block) round calls sound (AtLink id call heard) had).0

  member_shown : (block : MetaBlock) (round : Round) (calls : List Event) → SoundRound accepts (asking settling block) round calls
      → (id : ℕ) (cause : MemberCause) → IsMemberShown calls id cause → IsNewestMember settling id
  member_shown block round calls sound id WasLost shown = asked_member block round calls sound id shown.0 _ shown.1
  member_shown block round calls sound id (Denied denial) shown = asked_member block round calls sound id shown.0 _ shown.1
  member_shown block round calls sound id (OtherTail count tail) shown = asked_member block round calls sound id shown.1.0 _ shown.1.1

  pub shown_more : (some all : List Event) → Within some all → (id : ℕ) (cause : MemberCause) → IsMemberShown some id cause → IsMemberShown all id cause
  shown_more some all more id WasLost shown = (shown.0, more _ shown.1)
  shown_more some all more id (Denied denial) shown = (shown.0, more _ shown.1)
  shown_more some all more id (OtherTail count tail) shown = (shown.0, (shown.1.0, more _ shown.1.1), shown.2)

  -- the cause is by the reasons of a round that failed
  pub unsettled : 1 ≤ length settling.configs → (place : Place) (causes : List (ℕ × MemberCause)) (past calls before : List Event)
      → HasFailed accepts settling (top_block settling place) causes calls → IsBefore accepts settling place before → IsLast settling place causes (calls ++ before) past
      → Within calls past → (IsSome (first_given (above place.height) causes) → Had past (got_at settling place.height gots.None))
      → (cause : Cause) → cause ≡ cause_at settling.configs place.height causes → IsUnsettled accepts settling past cause
  unsettled views place causes past calls before failed began last within none cause is =
      let block = top_block settling place in
      let shown : AllByRecursion (IsShownHere settling place causes past) causes =
      subst (λ (cs : List (ℕ × MemberCause)). AllByRecursion (IsShownHere settling place causes past) cs) failed.reasons
      (all_more (λ (r : ℕ × MemberCause). IsMemberShown calls r.0 r.1) (IsShownHere settling place causes past)
      (λ r one. (member_shown block failed.round calls failed.sound r.0 r.1 one, shown_more calls past within r.0 r.1 one)) failed.round.reasons
      (laws.reasons accepts (asking settling block) failed.round calls failed.sound)) in
      let count : length (members_of settling) < length causes + quorum (members_of settling) =
      subst (λ (cs : List (ℕ × MemberCause)). length (members_of settling) < length cs + quorum (members_of settling)) failed.reasons
      (laws.few accepts (asking settling block) failed.round calls failed.sound failed.all failed.few) in (
        place,
        causes,
        record { calls = calls; before = before; failed = failed; began = began; last = last },
        is,
        subst (λ (c : Cause). Tells settling place causes past c) (sym is) (tells settling place causes past views shown count none),
      )
