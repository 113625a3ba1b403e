-- What shows the cause of a refusal where no quorum told the target's head.
use Rattle.std.proofs.Common.{◌≡◌, ℕ, ◌+◌, ◌-◌, ◌<◌, nat_lt, Bool, true, false, if◌then◌else◌, List, [], ◌∷◌, length, map, Option, Some, None, refl, sym, subst, arith}
use Rattle.std.specs.Prelude.{unwrap_or}
use Rattle.std.specs.List.{AllByRecursion}
use Rattle.std.specs.Option.{option_or, option_map}
use Rattle.std.proofs.lemmas.List.{length-map}
use Rattle.statement.specs.Config.{ids, weight_together, quorum}
use Rattle.statement.specs.Mark.{id_of as mark_id}
use Rattle.port.specs.Answer.{Answer, Signed, Refused, Stands, HasEnded, Full as MapFull}
use Rattle.port.specs.Call.{Latest}
use Rattle.port.specs.Cause.{MemberCause, Denied, Cause, NoQuorum, ViewMoved, Full, HadAnswer, TellsCount}
use Rattle.port.specs.Trace.{Event}
use Rattle.view_ledger.specs.Receipts.{Accepts}
use Rattle.view_ledger.specs.Views.{ViewChain}
use Rattle.op_parts.specs.declared.round_refusal.Contention.{Contention}
use Rattle.op_parts.specs.RoundLaws.{AreParted}
use Rattle.op_parts.specs.RoundRefusal.{first_given, moved, full, contended}
use Rattle.op_latest.specs.declared.latest_head.LatestHead.{LatestHead}
use Rattle.op_latest.specs.LatestAsked.{Asking}
use Rattle.op_latest.specs.LatestJudged.{latest}
use Rattle.op_latest.specs.LatestSays.{IsIdIn, IsConcluded, IsRefused, IsTargetCount}
use Rattle.op_latest.specs.LatestVote.{Vote, Told, Ahead, Blamed, MemberVote, id_of, has_quorum, marks_of, reasons_of, above, first_above}
use Rattle.op_latest.proofs.LatestBoth.{both_ids, both_target}
use Rattle.op_latest.proofs.LatestParted.{reason_id, parted, supported, few}
use Rattle.op_latest.proofs.LatestShown.{VoteShown, VotesShown}
use Rattle.op_latest.proofs.LatestVerdict.{ReasonShown, all_reasons, less_of}

-- what is given first is given by one of them
given : {Y : Type 0} (give : ℕ → MemberCause → Option Y) (P : Y → Type 0) (Q : ℕ × MemberCause → Type 0)
    → ((id : ℕ) (cause : MemberCause) → Q (id, cause) → (y : Y) → give id cause ≡ Some y → P y)
    → (reasons : List (ℕ × MemberCause)) → AllByRecursion Q reasons → (y : Y) → first_given give reasons ≡ Some y → P y
given give P Q each [] all y e = absurd (cc e)
given {Y} give P Q each (r ∷ reasons) all y e = by (give r.0 r.1) refl (λ rest. given give P Q each reasons all.1 y rest) e
  where
    by : (o : Option Y) → give r.0 r.1 ≡ o → (first_given give reasons ≡ Some y → P y) → option_or o (first_given give reasons) ≡ Some y → P y
    by None is below e = below e
    by (Some z) is below e = let same : z ≡ y = cc e in subst P same (each r.0 r.1 all.0 z is)

module _ (accepts : Accepts) (ask : Asking) (past : List Event) where
  abbrev MovedShown : ℕ → Cause → Type 0
  MovedShown number (ViewMoved from id statement sig) = IsIdIn ask id × HadAnswer past id (Refused (HasEnded statement sig)) × (from ≡ number)
  MovedShown number cause = ⊥

  abbrev FullShown : Cause → Type 0
  FullShown (Full id) = IsIdIn ask id × HadAnswer past id (Refused MapFull)
  FullShown cause = ⊥

  abbrev AboveShown : ℕ → Contention → Type 0
  AboveShown first c =
      IsIdIn ask c.member × (c.first < c.later) × (c.first ≡ first) × ((answer : Answer) × HadAnswer past c.member answer × TellsCount answer c.later)

  moved_by : (head : LatestHead) (number id : ℕ) (cause : MemberCause) → ReasonShown accepts ask past head (id, cause) → (c : Cause) → moved number id cause ≡ Some c → MovedShown number c
  moved_by head number id (Denied (HasEnded statement sig)) shown c e =
      let same : ViewMoved number id statement sig ≡ c = cc e in subst (MovedShown number) same (shown.0, shown.1, refl)
  moved_by head number id cause shown c e = absurd (cc e)

  full_by : (head : LatestHead) (id : ℕ) (cause : MemberCause) → ReasonShown accepts ask past head (id, cause) → (c : Cause) → full id cause ≡ Some c → FullShown c
  full_by head id (Denied MapFull) shown c e = let same : Full id ≡ c = cc e in subst FullShown same (shown.0, shown.1)
  full_by head id cause shown c e = absurd (cc e)

  less_by : (a b : ℕ) → nat_lt a b ≡ true → a < b
  less_by a b e = grind (arith, e)

  above_by : (first id : ℕ) (vote : Vote) → VoteShown accepts ask past (record { id = id; vote = vote }) → (c : Contention) → above first id vote ≡ Some c → AboveShown first c
  above_by first id (Told tail count sig) shown c e = by (nat_lt first count) refl e
    where
      by : (b : Bool) → nat_lt first count ≡ b → (if b then Some (record { member = id; first = first; later = count }) else None) ≡ Some c → AboveShown first c
      by true is e =
          let same : record { member = id; first = first; later = count } ≡ c = cc e in
          subst (AboveShown first) same (
            (shown.0, shown.1, shown.2, shown.3),
            less_by first count is,
            refl,
            (
              Signed (latest ask.claim tail count) sig,
              subst (λ (i : ℕ). HadAnswer past i (Signed (latest ask.claim tail count) sig)) (sym shown.3) (Latest ask.claim.handle ask.claim.nonce, shown.4.2),
              (tail, (refl, refl)),
            ),
          )
      by false is e = absurd (cc e)
  above_by first id (Ahead count tail) shown c e = by (nat_lt first count) refl e
    where
      by : (b : Bool) → nat_lt first count ≡ b → (if b then Some (record { member = id; first = first; later = count }) else None) ≡ Some c → AboveShown first c
      by true is e =
          let same : record { member = id; first = first; later = count } ≡ c = cc e in
          subst (AboveShown first) same (
            (shown.0, shown.1, shown.2, shown.3),
            less_by first count is,
            refl,
            (Refused (Stands count tail), subst (λ (i : ℕ). HadAnswer past i (Refused (Stands count tail))) (sym shown.3) shown.4, refl),
          )
      by false is e = absurd (cc e)
  above_by first id (Blamed cause) shown c e = absurd (cc e)

  first_above_by : (first : ℕ) (votes : List MemberVote) → VotesShown accepts ask past votes → (c : Contention) → first_above first votes ≡ Some c → AboveShown first c
  first_above_by first [] shown c e = absurd (cc e)
  first_above_by first (one ∷ votes) shown c e = by (above first one.id one.vote) refl (λ rest. first_above_by first votes shown.1 c rest) e
    where
      by : (o : Option Contention) → above first one.id one.vote ≡ o → (first_above first votes ≡ Some c → AboveShown first c) → option_or o (first_above first votes) ≡ Some c
          → AboveShown first c
      by None is below e = below e
      by (Some z) is below e = let same : z ≡ c = cc e in subst (AboveShown first) same (above_by first one.id one.vote shown.0 z is)

  module _ (chain : ViewChain) where
    abbrev Concluded : Cause → Type 0
    Concluded cause = IsConcluded accepts ask (length chain.configs) past cause

    moved_refused : (cause : Cause) → MovedShown (length chain.configs - 1) cause → Concluded cause → IsRefused accepts ask chain past cause
    moved_refused (ViewMoved from id statement sig) shown concluded = (shown.0, shown.1, concluded, shown.2)
    moved_refused cause shown concluded = absurd shown

    full_refused : (cause : Cause) → FullShown cause → Concluded cause → IsRefused accepts ask chain past cause
    full_refused (Full id) shown concluded = (shown.0, shown.1, concluded)
    full_refused cause shown concluded = absurd shown

    -- the reasons are enough
    enough : (head : LatestHead) (votes : List MemberVote) → map id_of votes ≡ ids ask.members → has_quorum ask.members votes head ≡ false
        → length ask.members < length (reasons_of head votes) + quorum ask.members
    enough head votes all none =
        subst (λ (n : ℕ). length ask.members < n + quorum ask.members) (length-map (reasons_of head votes) reason_id)
        (few ask.members (map mark_id (marks_of head votes)) (map reason_id (reasons_of head votes))
        (subst (λ (l : List ℕ). AreParted l (map mark_id (marks_of head votes)) (map reason_id (reasons_of head votes))) all (parted head votes))
        (subst (λ (l : List ℕ). weight_together ask.members l < quorum ask.members) (supported head votes) (less_of _ _ none)))

    -- by what is given first
    pub refused : (cause : Cause) (concluded : Concluded cause) → VotesShown accepts ask past concluded.votes → IsRefused accepts ask chain past cause
    refused cause concluded shown =
        by (first_given (moved number) reasons) (first_given full reasons) (first_above head.count votes) refl refl refl cause concluded.is concluded
      where
        head : LatestHead
        head = concluded.head

        votes : List MemberVote
        votes = concluded.votes

        number : ℕ
        number = length chain.configs - 1

        reasons : List (ℕ × MemberCause)
        reasons = reasons_of concluded.head concluded.votes

        by : (a b : Option Cause) (c : Option Contention) → first_given (moved number) reasons ≡ a → first_given full reasons ≡ b → first_above head.count votes ≡ c
            → (k : Cause) → k ≡ unwrap_or (option_or a (option_or b (option_map contended c))) (NoQuorum (quorum ask.members) reasons) → Concluded k → IsRefused accepts ask chain past k
        by (Some x) b c is_a is_b is_c k is so =
            moved_refused k (subst (MovedShown number) (sym is) (given (moved number) (MovedShown number) (ReasonShown accepts ask past head) (moved_by head number) reasons (all_reasons accepts ask past head votes shown) x is_a)) so
        by None (Some x) c is_a is_b is_c k is so =
            full_refused k (subst FullShown (sym is) (given full FullShown (ReasonShown accepts ask past head) (full_by head) reasons (all_reasons accepts ask past head votes shown) x is_b)) so
        by None None (Some x) is_a is_b is_c k is so =
            let above_it = first_above_by head.count votes shown x is_c in
            subst (λ (cause : Cause). IsRefused accepts ask chain past cause) (sym is) (
              above_it.0,
              above_it.1,
              subst (λ (n : ℕ). IsTargetCount accepts ask past n) (sym above_it.2)
                  (both_target accepts ask head (length ask.members) votes [] concluded.calls concluded.fresh past concluded.both concluded.split),
              above_it.3,
              subst Concluded is so,
            )
        by None None None is_a is_b is_c k is so =
            subst (λ (cause : Cause). IsRefused accepts ask chain past cause) (sym is) (
              refl,
              enough head votes (both_ids accepts ask head (length ask.members) votes concluded.calls concluded.both) concluded.few,
              all_reasons accepts ask past head votes shown,
              subst Concluded is so,
            )
