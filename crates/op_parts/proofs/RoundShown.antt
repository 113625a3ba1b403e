-- What the calls of a round show.
use Rattle.std.proofs.Common.{◌≡◌, ◌⊎◌, inl, inr, ℕ, zero, suc, ◌<◌, true, List, [], ◌∷◌, ◌++◌, refl, sym, ◌∙◌, subst, ap}
use Rattle.std.specs.Prelude.{Ok}
use Rattle.std.specs.List.{AllByRecursion}
use Rattle.statement.specs.declared.member.Member.{Member}
use Rattle.statement.specs.declared.statement.Statement.{Statement}
use Rattle.statement.specs.Mark.{Content as Mark}
use Rattle.statement.specs.Statement.{statement_bytes}
use Rattle.port.specs.declared.reason.Reason.{Reason}
use Rattle.port.specs.Answer.{Denial, Signed, Refused, Stands}
use Rattle.port.specs.Cause.{MemberCause, WasLost, Denied, OtherTail, HadAnswer, IsMemberShown, member_cause_of}
use Rattle.port.specs.Heard.{Heard, Answered, Lost}
use Rattle.port.specs.Trace.{Event, Had}
use Rattle.catch_up.specs.declared.progress.Progress.{Progress}
use Rattle.catch_up.specs.declared.progress.Progress.TheVariants.{Ahead, Member as Reasoned}
use Rattle.catch_up.specs.State.{Target}
use Rattle.catch_up.specs.Told.{told}
use Rattle.catch_up.specs.OwnCalls.{append_of}
use Rattle.catch_up.specs.Says.{Says}
use Rattle.view_ledger.specs.Receipts.{Accepts}
use Rattle.op_parts.specs.RoundAsking.{Asking, claim, append_to, target_of}
use Rattle.op_parts.specs.RoundOutcome.{Outcome, Marked, Blamed, held, IsOutcome}
use Rattle.op_parts.specs.RoundTurn.{EndedSo, IsBlame, Ends}
use Rattle.op_parts.specs.RoundState.{State}
use Rattle.op_parts.specs.RoundSound.{IsMember, AreAsked, Sound}
use Rattle.op_parts.specs.RoundLaws.{IsMarkShown}

-- these calls are among those
abbrev pub Within : List Event → List Event → Type 0
Within some all = (event : Event) → Had some event → Had all event

pub later : (a b : List Event) → Within b (a ++ b)
later [] b event had = had
later (first ∷ a) b event had = inr (later a b event had)

pub newer : (a b : List Event) → Within a (a ++ b)
newer [] b event had = absurd had
newer (first ∷ a) b event (inl is) = inl is
newer (first ∷ a) b event (inr had) = inr (newer a b event had)

pub split : (a b : List Event) (event : Event) → Had (a ++ b) event → Had a event ⊎ Had b event
split [] b event had = inr had
split (first ∷ a) b event (inl is) = inl (inl is)
split (first ∷ a) b event (inr had) = sorted (split a b event had)
  where
    sorted : Had a event ⊎ Had b event → Had (first ∷ a) event ⊎ Had b event
    sorted (inl h) = inl (inr h)
    sorted (inr h) = inr h

pub all_more : {X : Type 0} (P Q : X → Type 0) → ((x : X) → P x → Q x) → (xs : List X) → AllByRecursion P xs → AllByRecursion Q xs
all_more P Q more [] all = tt
all_more P Q more (x ∷ xs) all = (more x all.0, all_more P Q more xs all.1)

pub all_and : {X : Type 0} (P : X → Type 0) (xs : List X) (x : X) → AllByRecursion P xs → P x → AllByRecursion P (xs ++ x ∷ [])
all_and P [] x all is = (is, tt)
all_and P (first ∷ xs) x all is = (all.0, all_and P xs x all.1 is)

member_more : (some all : List Event) (id : ℕ) (cause : MemberCause) → Within some all → IsMemberShown some id cause → IsMemberShown all id cause
member_more some all id WasLost more shown = (shown.0, more _ shown.1)
member_more some all id (Denied denial) more shown = (shown.0, more _ shown.1)
member_more some all id (OtherTail count tail) more shown = (shown.0, (shown.1.0, more _ shown.1.1), shown.2)

mark_more : (accepts : Accepts) (ask : Asking) (some all : List Event) (mark : Mark) → Within some all
    → IsMarkShown accepts ask some mark → IsMarkShown accepts ask all mark
mark_more accepts ask some all mark more shown = (shown.0, shown.1, shown.2, shown.3, shown.4, more _ shown.5)

-- what a catch-up's law says of a member's reason, and of one that is ahead
abbrev pub MemberLaw : Type 0
MemberLaw = (target : Target) (height : ℕ) (event : Event) (past : List Event) (reason : Reason) → Says target height event (Ok (Reasoned reason))
    → IsMemberShown (event ∷ past) target.member (member_cause_of reason)

abbrev pub AheadLaw : Type 0
AheadLaw = (target : Target) (height : ℕ) (event : Event) (past : List Event) (count : ℕ) (tail : List ℕ) → Says target height event (Ok (Ahead count tail))
    → (target.count < count) × HadAnswer (event ∷ past) target.member (Refused (Stands count tail))

abbrev pub cause_in : Outcome → MemberCause → MemberCause
cause_in (Blamed cause) other = cause
cause_in (Marked sig) other = other

module _ (accepts : Accepts) (ask : Asking) where
  marked_by : (member : Member) (rest : List Event) (heard : Heard) (sig : List ℕ) → IsOutcome accepts (claim ask) member.key heard (Marked sig)
      → (accepts member.key (statement_bytes (held (claim ask))) sig ≡ true)
      × Had (append_to ask member.id heard ∷ rest) (append_to ask member.id (Answered (Signed (held (claim ask)) sig)))
  marked_by member rest (Answered (Signed statement mark)) sig is = (
    subst (λ (s : Statement). accepts member.key (statement_bytes s) sig ≡ true) is.1.0
        (subst (λ (m : List ℕ). accepts member.key (statement_bytes statement) m ≡ true) (sym is.0) is.1.1),
    inl (ap (λ (s : Statement). append_to ask member.id (Answered (Signed s mark))) is.1.0 ∙ ap (λ (m : List ℕ). append_to ask member.id (Answered (Signed (held (claim ask)) m))) (sym is.0)),
  )
  marked_by member rest heard sig is = absurd is

  no_mark : (progress : Progress) (sig : List ℕ) → IsBlame progress (Marked sig) → ⊥
  no_mark (Ahead count tail) sig is = absurd (cc is)
  no_mark (Reasoned reason) sig is = absurd (cc is)
  no_mark progress sig is = is

  marked : (member : Member) (calls : List Event) (sig : List ℕ) → Ends accepts ask member calls (Marked sig)
      → (accepts member.key (statement_bytes (held (claim ask))) sig ≡ true)
      × Had calls (append_to ask member.id (Answered (Signed (held (claim ask)) sig)))
  marked member calls sig (inl e) =
      let m = marked_by member [] e.0 sig e.2 in
      (m.0, subst (λ (c : List Event). Had c (append_to ask member.id (Answered (Signed (held (claim ask)) sig)))) (sym e.1) m.1)
  marked member calls sig (inr (inl e)) = absurd (no_mark e.2 sig e.5)
  marked member calls sig (inr (inr e)) =
      let m = marked_by member e.2 e.3 sig e.7 in
      (m.0, subst (λ (c : List Event). Had c (append_to ask member.id (Answered (Signed (held (claim ask)) sig)))) (sym e.4) m.1)

  -- how a member's turn ended, and what was known of those before it
  abbrev Side : ℕ → Member → List Mark → List (ℕ × MemberCause) → List Event → List Event → Type 0
  Side n member marks reasons calls before =
      ((sig : List ℕ) × (others : List Mark) × (marks ≡ others ++ record { id = member.id; sig = sig } ∷ [])
      × Ends accepts ask member calls (Marked sig) × AreAsked accepts ask n others reasons before)
      ⊎ ((cause : MemberCause) × (others : List (ℕ × MemberCause)) × (reasons ≡ others ++ (member.id, cause) ∷ [])
      × Ends accepts ask member calls (Blamed cause) × AreAsked accepts ask n marks others before)

  abbrev MarksShown : List Event → List Mark → Type 0
  MarksShown events marks = AllByRecursion (IsMarkShown accepts ask events) marks

  older_marks : (calls before : List Event) (marks : List Mark) → MarksShown before marks → MarksShown (calls ++ before) marks
  older_marks calls before marks shown =
      all_more (IsMarkShown accepts ask before) (IsMarkShown accepts ask (calls ++ before))
      (λ mark one. mark_more accepts ask before (calls ++ before) mark (later calls before) one) marks shown

  one_mark : (n : ℕ) (member : Member) (marks : List Mark) (reasons : List (ℕ × MemberCause)) (calls before : List Event) → IsMember ask n member
      → ((others : List Mark) (blamed : List (ℕ × MemberCause)) → AreAsked accepts ask n others blamed before → MarksShown before others)
      → Side n member marks reasons calls before → MarksShown (calls ++ before) marks
  one_mark n member marks reasons calls before is below (inl side) =
      let m = marked member calls side.0 side.3 in
      subst (MarksShown (calls ++ before)) (sym side.2)
      (all_and (IsMarkShown accepts ask (calls ++ before)) side.1 (record { id = member.id; sig = side.0 }) (older_marks calls before side.1 (below side.1 reasons side.4))
      (n, member, is, refl, m.0, newer calls before _ m.1))
  one_mark n member marks reasons calls before is below (inr side) = older_marks calls before marks (below marks side.1 side.4)

  -- a mark is shown by the calls to its member
  pub marks_shown : (n : ℕ) (marks : List Mark) (reasons : List (ℕ × MemberCause)) (past : List Event) → AreAsked accepts ask n marks reasons past
      → MarksShown past marks
  marks_shown zero marks reasons past asked = subst (MarksShown past) (sym asked.0) tt
  marks_shown (suc n) marks reasons past asked =
      subst (λ (p : List Event). MarksShown p marks) (sym asked.4)
      (one_mark n asked.0 marks reasons asked.1 asked.2 asked.3 (λ others blamed more. marks_shown n others blamed asked.2 more) asked.5)

  blamed_by : (id : ℕ) (key : List ℕ) (rest : List Event) (heard : Heard) (cause : MemberCause) → IsOutcome accepts (claim ask) key heard (Blamed cause)
      → IsMemberShown (append_to ask id heard ∷ rest) id cause
  blamed_by id key rest Lost WasLost is = (append_of ask.handle ask.block, inl refl)
  blamed_by id key rest (Answered (Refused denial)) (Denied reason) is =
      (append_of ask.handle ask.block, inl (ap (λ (d : Denial). append_to ask id (Answered (Refused d))) (sym is.0)))
  blamed_by id key rest (Answered answer) (OtherTail count tail) is = (answer, (append_of ask.handle ask.block, inl refl), inr (is.1, is.2))
  blamed_by id key rest heard cause is = absurd is

  caught_blamed : MemberLaw → AheadLaw → (id from : ℕ) (calls : List Event) (progress : Progress) (cause : MemberCause) → EndedSo ask id from calls progress
      → IsBlame progress (Blamed cause) → IsMemberShown calls id cause
  caught_blamed by_member by_ahead id from [] progress cause so is = absurd so
  caught_blamed by_member by_ahead id from (event ∷ past) (Ahead count tail) cause so is =
      subst (IsMemberShown (event ∷ past) id) (sym (ap (λ (o : Outcome). cause_in o cause) is)) (by_ahead (target_of ask id) (told id from past) event past count tail so).1
  caught_blamed by_member by_ahead id from (event ∷ past) (Reasoned reason) cause so is =
      subst (IsMemberShown (event ∷ past) id) (sym (ap (λ (o : Outcome). cause_in o cause) is)) (by_member (target_of ask id) (told id from past) event past reason so)
  caught_blamed by_member by_ahead id from (event ∷ past) progress cause so is = absurd is

  blamed : MemberLaw → AheadLaw → (member : Member) (calls : List Event) (cause : MemberCause) → Ends accepts ask member calls (Blamed cause) → IsMemberShown calls member.id cause
  blamed by_member by_ahead member calls cause (inl e) =
      subst (λ (c : List Event). IsMemberShown c member.id cause) (sym e.1) (blamed_by member.id member.key [] e.0 cause e.2)
  blamed by_member by_ahead member calls cause (inr (inl e)) =
      subst (λ (c : List Event). IsMemberShown c member.id cause) (sym e.3.split)
      (member_more e.1 _ member.id cause (newer e.1 _) (caught_blamed by_member by_ahead member.id e.0 e.1 e.2 cause e.4 e.5))
  blamed by_member by_ahead member calls cause (inr (inr e)) =
      subst (λ (c : List Event). IsMemberShown c member.id cause) (sym e.4) (blamed_by member.id member.key e.2 e.3 cause e.7)

  abbrev ReasonsShown : List Event → List (ℕ × MemberCause) → Type 0
  ReasonsShown events reasons = AllByRecursion (λ (r : ℕ × MemberCause). IsMemberShown events r.0 r.1) reasons

  older_reasons : (calls before : List Event) (reasons : List (ℕ × MemberCause)) → ReasonsShown before reasons → ReasonsShown (calls ++ before) reasons
  older_reasons calls before reasons shown =
      all_more (λ (r : ℕ × MemberCause). IsMemberShown before r.0 r.1) (λ (r : ℕ × MemberCause). IsMemberShown (calls ++ before) r.0 r.1)
      (λ r one. member_more before (calls ++ before) r.0 r.1 (later calls before) one) reasons shown

  one_reason : MemberLaw → AheadLaw → (n : ℕ) (member : Member) (marks : List Mark) (reasons : List (ℕ × MemberCause)) (calls before : List Event)
      → ((others : List Mark) (rest : List (ℕ × MemberCause)) → AreAsked accepts ask n others rest before → ReasonsShown before rest)
      → Side n member marks reasons calls before → ReasonsShown (calls ++ before) reasons
  one_reason by_member by_ahead n member marks reasons calls before below (inl side) = older_reasons calls before reasons (below side.1 reasons side.4)
  one_reason by_member by_ahead n member marks reasons calls before below (inr side) =
      subst (ReasonsShown (calls ++ before)) (sym side.2)
      (all_and (λ (r : ℕ × MemberCause). IsMemberShown (calls ++ before) r.0 r.1) side.1 (member.id, side.0) (older_reasons calls before side.1 (below marks side.1 side.4))
      (member_more calls (calls ++ before) member.id side.0 (newer calls before) (blamed by_member by_ahead member calls side.0 side.3)))

  -- a reason is shown by the calls to its member
  pub reasons_shown : MemberLaw → AheadLaw → (n : ℕ) (marks : List Mark) (reasons : List (ℕ × MemberCause)) (past : List Event)
      → AreAsked accepts ask n marks reasons past → ReasonsShown past reasons
  reasons_shown by_member by_ahead zero marks reasons past asked = subst (ReasonsShown past) (sym asked.1) tt
  reasons_shown by_member by_ahead (suc n) marks reasons past asked =
      subst (λ (p : List Event). ReasonsShown p reasons) (sym asked.4)
      (one_reason by_member by_ahead n asked.0 marks reasons asked.1 asked.2
      (λ others rest more. reasons_shown by_member by_ahead n others rest asked.2 more) asked.5)

  -- in all calls of a round
  pub all_marks_shown : (state : State) (past : List Event) → Sound accepts ask state past → MarksShown past state.marks
  all_marks_shown state past sound =
      subst (λ (p : List Event). MarksShown p state.marks) (sym sound.split)
      (older_marks sound.calls sound.before state.marks (marks_shown state.asked state.marks state.reasons sound.before sound.asked))

  pub all_reasons_shown : MemberLaw → AheadLaw → (state : State) (past : List Event) → Sound accepts ask state past → ReasonsShown past state.reasons
  all_reasons_shown by_member by_ahead state past sound =
      subst (λ (p : List Event). ReasonsShown p state.reasons) (sym sound.split)
      (older_reasons sound.calls sound.before state.reasons (reasons_shown by_member by_ahead state.asked state.marks state.reasons sound.before sound.asked))
