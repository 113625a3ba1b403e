-- What follows from the votes of all members: a receipt, or a refusal.
use Rattle.std.proofs.Common.{◌≡◌, inl, ℕ, ◌<◌, ◌≤◌, ◌==◌, ◌&&◌, Bool, true, false, if◌then◌else◌, List, [], ◌∷◌, map, Some, None, refl, sym, subst, arith}
use Rattle.std.specs.Prelude.{nat_le}
use Rattle.std.specs.List.{AllByRecursion, cons_option}
use Rattle.std.specs.Str.{bytes_eq}
use Rattle.std.proofs.lemmas.Slice.Eq.{bytes_eq-Decides}
use Rattle.statement.specs.declared.member.Member.{Member}
use Rattle.statement.specs.Config.{ids, key_of, weight_together, quorum, IsConfig}
use Rattle.statement.specs.Ids.{IsRising}
use Rattle.statement.specs.Mark.{Content as Mark, id_of as mark_id}
use Rattle.statement.specs.Statement.{statement_bytes}
use Rattle.port.specs.Answer.{Signed, Refused, Stands}
use Rattle.port.specs.Cause.{MemberCause, OtherTail, HadAnswer, IsMemberShown}
use Rattle.port.specs.Heard.{Answered}
use Rattle.port.specs.Trace.{Event, Had}
use Rattle.view_ledger.specs.Receipts.{Accepts, IsSigned}
use Rattle.view_ledger.specs.Signers.{are_quorum}
use Rattle.op_parts.specs.RoundLaws.{AreParted}
use Rattle.op_latest.specs.declared.latest_head.LatestHead.{LatestHead}
use Rattle.op_latest.specs.LatestAsked.{Asking, IsMember, latest_to}
use Rattle.op_latest.specs.LatestJudged.{latest, IsHead}
use Rattle.op_latest.specs.LatestSays.{IsIdIn, IsReceipted}
use Rattle.op_latest.specs.LatestSteps.{receipt_of}
use Rattle.op_latest.specs.LatestVote.{Vote, Told, Ahead, Blamed, MemberVote, id_of, is_for, has_quorum, mark_of, marks_of, reason_of, with_id, reasons_of}
use Rattle.op_latest.proofs.LatestLists.{all_more}
use Rattle.op_latest.proofs.LatestParted.{reason_id, parted, supported, marked_rise, key_at}
use Rattle.op_latest.proofs.LatestShown.{VoteShown, VotesShown}

and_parts : (a b : Bool) → (a && b) ≡ true → (a ≡ true) × (b ≡ true)
and_parts true true e = (refl, refl)
and_parts true false e = absurd (cc e)
and_parts false b e = absurd (cc e)

same_number : (a b : ℕ) → (a == b) ≡ true → a ≡ b
same_number a b e = grind (arith, e)

-- the head that is told
told_head : (head : LatestHead) (tail sig : List ℕ) (count : ℕ) → is_for head (Told tail count sig) ≡ true → (tail ≡ head.tail) × (count ≡ head.count)
told_head head tail sig count e =
    let p = and_parts (bytes_eq tail head.tail) (count == head.count) e in ((bytes_eq-Decides tail head.tail).0 p.0, same_number count head.count p.1)

le_of : (a b : ℕ) → nat_le a b ≡ true → a ≤ b
le_of a b e = grind (arith, e)

pub less_of : (a b : ℕ) → nat_le a b ≡ false → b < a
less_of a b e = grind (arith, e)

module _ (accepts : Accepts) (ask : Asking) (past : List Event) (head : LatestHead) where
  -- a mark of a member that told the head
  abbrev pub MarkShown : Mark → Type 0
  MarkShown mark =
      (place : ℕ) × (member : Member) × IsMember ask place member × (mark.id ≡ member.id)
      × (accepts member.key (statement_bytes (latest ask.claim head.tail head.count)) mark.sig ≡ true) × IsHead head.tail head.count
      × Had past (latest_to ask mark.id (Answered (Signed (latest ask.claim head.tail head.count) mark.sig)))

  abbrev pub ReasonShown : ℕ × MemberCause → Type 0
  ReasonShown reason = IsIdIn ask reason.0 × IsMemberShown past reason.0 reason.1

  told_mark : (id : ℕ) (tail sig : List ℕ) (count : ℕ) → VoteShown accepts ask past (record { id = id; vote = Told tail count sig })
      → is_for head (Told tail count sig) ≡ true → MarkShown (record { id = id; sig = sig })
  told_mark id tail sig count shown e =
      let h = told_head head tail sig count e in
      let one = shown.4 in
      subst (λ (t : List ℕ). (place : ℕ) × (member : Member) × IsMember ask place member × (id ≡ member.id)
      × (accepts member.key (statement_bytes (latest ask.claim t head.count)) sig ≡ true) × IsHead t head.count
      × Had past (latest_to ask id (Answered (Signed (latest ask.claim t head.count) sig)))) h.0
      (subst (λ (n : ℕ). (place : ℕ) × (member : Member) × IsMember ask place member × (id ≡ member.id)
      × (accepts member.key (statement_bytes (latest ask.claim tail n)) sig ≡ true) × IsHead tail n
      × Had past (latest_to ask id (Answered (Signed (latest ask.claim tail n) sig)))) h.1 (
        shown.0,
        shown.1,
        shown.2,
        shown.3,
        one.0,
        one.1,
        subst (λ (i : ℕ). Had past (latest_to ask i (Answered (Signed (latest ask.claim tail count) sig)))) (sym shown.3) one.2,
      ))

  one_mark : (id : ℕ) (vote : Vote) (marks : List Mark) → VoteShown accepts ask past (record { id = id; vote = vote }) → AllByRecursion MarkShown marks
      → AllByRecursion MarkShown (cons_option (mark_of head id vote) marks)
  one_mark id (Told tail count sig) marks shown all = by (is_for head (Told tail count sig)) refl
    where
      by : (b : Bool) → is_for head (Told tail count sig) ≡ b → AllByRecursion MarkShown (cons_option (if b then Some (record { id = id; sig = sig }) else None) marks)
      by true e = (told_mark id tail sig count shown e, all)
      by false e = all
  one_mark id (Ahead count tail) marks shown all = all
  one_mark id (Blamed cause) marks shown all = all

  pub marks_shown : (votes : List MemberVote) → VotesShown accepts ask past votes → AllByRecursion MarkShown (marks_of head votes)
  marks_shown [] shown = tt
  marks_shown (one ∷ votes) shown = one_mark one.id one.vote (marks_of head votes) shown.0 (marks_shown votes shown.1)

  one_reason : (id : ℕ) (vote : Vote) (reasons : List (ℕ × MemberCause)) → VoteShown accepts ask past (record { id = id; vote = vote }) → AllByRecursion ReasonShown reasons
      → AllByRecursion ReasonShown (cons_option (with_id id (reason_of head vote)) reasons)
  one_reason id (Told tail count sig) reasons shown all = by (is_for head (Told tail count sig))
    where
      by : (b : Bool) → AllByRecursion ReasonShown (cons_option (with_id id (if b then None else Some (OtherTail count tail))) reasons)
      by true = all
      by false = (
        (
          (shown.0, shown.1, shown.2, shown.3),
          (
            Signed (latest ask.claim tail count) sig,
            subst (λ (i : ℕ). HadAnswer past i (Signed (latest ask.claim tail count) sig)) (sym shown.3) (_, shown.4.2),
            inl (refl, refl),
          ),
        ),
        all,
      )
  one_reason id (Ahead count tail) reasons shown all =
      (((shown.0, shown.1, shown.2, shown.3), subst (λ (i : ℕ). HadAnswer past i (Refused (Stands count tail))) (sym shown.3) shown.4), all)
  one_reason id (Blamed cause) reasons shown all =
      (((shown.0, shown.1, shown.2, shown.3), subst (λ (i : ℕ). IsMemberShown past i cause) (sym shown.3) shown.4), all)

  pub all_reasons : (votes : List MemberVote) → VotesShown accepts ask past votes → AllByRecursion ReasonShown (reasons_of head votes)
  all_reasons [] shown = tt
  all_reasons (one ∷ votes) shown = one_reason one.id one.vote (reasons_of head votes) shown.0 (all_reasons votes shown.1)

  -- some mark stands where they are a quorum
  some_head : (marks : List Mark) → AllByRecursion MarkShown marks → quorum ask.members ≤ weight_together ask.members (map mark_id marks) → IsHead head.tail head.count
  some_head [] all enough = absurd (omega (arith, enough))
  some_head (mark ∷ marks) all enough = all.0.5

  pub receipted : (votes : List MemberVote) → IsConfig ask.members → map id_of votes ≡ ids ask.members → VotesShown accepts ask past votes
      → has_quorum ask.members votes head ≡ true → IsReceipted accepts ask past head (receipt_of ask.claim head votes)
  receipted votes config all shown enough =
      let marks : List Mark = marks_of head votes in
      let each = marks_shown votes shown in
      let weight : quorum ask.members ≤ weight_together ask.members (map mark_id marks) =
      subst (λ (l : List ℕ). quorum ask.members ≤ weight_together ask.members l) (supported head votes) (le_of _ _ enough) in
      let rising : IsRising (map mark_id marks) =
      marked_rise None (ids ask.members) (map mark_id marks) (map reason_id (reasons_of head votes))
      (subst (λ (l : List ℕ). AreParted l (map mark_id marks) (map reason_id (reasons_of head votes))) all (parted head votes)) config.rising in
      let signed : AllByRecursion (λ (m : Mark). IsSigned accepts ask.members (statement_bytes (latest ask.claim head.tail head.count)) m.id m.sig) marks =
      all_more MarkShown (λ (m : Mark). IsSigned accepts ask.members (statement_bytes (latest ask.claim head.tail head.count)) m.id m.sig)
      (λ m is. (is.1.key, subst (λ (i : ℕ). key_of ask.members i ≡ Some is.1.key) (sym is.3) (key_at ask.members is.0 is.1 config.rising is.2), is.4)) marks each in
      record {
        states = refl;
        accepted = record {
          own_view = refl;
          rising = rising;
          signed = signed;
          enough = are_quorum accepts ask.members (λ (m : Mark). statement_bytes (latest ask.claim head.tail head.count)) (λ (m : Mark). m.sig) mark_id marks rising signed weight;
        };
        marks = all_more MarkShown (λ (m : Mark). Had past (latest_to ask m.id (Answered (Signed (latest ask.claim head.tail head.count) m.sig)))) (λ m is. is.6) marks each;
        head_is = some_head marks each weight;
      }
