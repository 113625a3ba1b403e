-- A round of a row for which there is room, and of one for which there is none.
use Rattle.std.proofs.Common.{◌≡◌, ℕ, suc, ◌+◌, true, List, [], ◌∷◌, ◌++◌, map, take, slice_get, Option, Some, refl, sym, subst, ap, ◌∙◌}
use Rattle.std.specs.Option.{option_map}
use Rattle.std.proofs.Math.Seq.{take-suc}
use Rattle.std.proofs.lemmas.List.{map-append}
use Rattle.std.proofs.lemmas.Option.{slice_get_within, get_or_from_slice_get, slice_get-map}
use Rattle.chain_block.specs.Tail.{tail_after}
use Rattle.tail_map.specs.declared.tail_row.TailRow.{TailRow}
use Rattle.tail_map.specs.TailMap.{set}
use Rattle.statement.specs.declared.member.Member.{Member}
use Rattle.statement.specs.declared.statement.Statement.{Statement}
use Rattle.statement.specs.declared.statement.Statement.TheVariants as statements
use Rattle.statement.specs.declared.view_block.ViewBlock.{ViewBlock}
use Rattle.statement.specs.Config.{ids, id_of as member_id}
use Rattle.statement.specs.Statement.{statement_bytes}
use Rattle.statement.specs.Mark.{Content as Mark, id_of}
use Rattle.port.specs.Answer.{Signed, Refused, Behind, Full}
use Rattle.port.specs.Cause.{MemberCause, Denied}
use Rattle.port.specs.Heard.{Heard, Answered}
use Rattle.port.specs.Link.{Bank, IsFaithful}
use Rattle.port.specs.Trace.{Event, AreFaithful}
use Rattle.catch_up.specs.OwnCalls.{append_of}
use Rattle.view_ledger.specs.Receipts.{Accepts}
use Rattle.op_parts.specs.RoundAsking.{Asking, claim}
use Rattle.op_parts.specs.RoundOutcome.{Outcome, Marked, Blamed, held, IsOutcome}
use Rattle.op_parts.specs.RoundState.{State}
use Rattle.op_parts.specs.RoundSound.{AreAsked, Sound}
use Rattle.calm.specs.Members.{Signs, IsAble, IsAt, WentOn}
use Rattle.calm.specs.Answering.{held_with}
use Rattle.calm.specs.Appending.{AsksOnce, AreReady, IsNext, HasRoom, IsFull, row_of}
use Rattle.calm.proofs.OneAnswer.{Asked}
use Rattle.calm.proofs.MemberAnswers.{append_signs, append_holds, append_refused, append_full}
use Rattle.calm.proofs.Turns.{NotBehind, marked, blamed}
use Rattle.calm.proofs.Rounds.{Led, leads, asks_once}

-- the first ids, and one more
pub take_next : (members : List Member) (n : ℕ) (member : Member) → slice_get members n ≡ Some member → take (suc n) (ids members) ≡ take n (ids members) ++ member.id ∷ []
take_next members n member is =
    let there : slice_get (ids members) n ≡ Some member.id = slice_get-map member_id members n ∙ ap (λ (o : Option Member). option_map member_id o) is in
    take-suc (ids members) n member.id (slice_get_within (ids members) n member.id there)
    ∙ ap (λ (id : ℕ). take n (ids members) ++ id ∷ []) (get_or_from_slice_get (ids members) n member.id member.id there)

-- the outcome is a mark
abbrev pub IsMarked : Outcome → Type 0
IsMarked (Marked sig) = Unit {0}
IsMarked (Blamed cause) = ⊥

-- the outcome is that the map is full
abbrev pub IsBlamedFull : Outcome → Type 0
IsBlamedFull (Marked sig) = ⊥
IsBlamedFull (Blamed cause) = cause ≡ Denied Full

abbrev pub full_of : ℕ → ℕ × MemberCause
full_of id = (id, Denied Full)

module _ (accepts : Accepts) (signs : Signs) (bank : Bank) (view : ViewBlock) (rows : List TailRow) (left : ℕ) (ask : Asking)
    (ready : AreReady accepts signs bank view rows (left + 1) ask) (next : IsNext rows ask.handle ask.block) where
  -- what a member signs is the claim
  is_claim : held_with view ask.handle ask.block ≡ held (claim ask)
  is_claim = ap (λ (v : List ℕ). statements.Held v ask.handle (tail_after ask.block.prev ask.block.entry ask.block.height) (ask.block.height + 1)) (sym ready.tail)

  asked_behind : (b after : Bank) (member : Member) (from : ℕ) → IsAble b view ask.members rows (left + 1) member
      → IsFaithful signs b member.id (append_of ask.handle ask.block) (Answered (Refused (Behind from))) after
      → Asked signs b view ask.members rows (left + 1) member (append_of ask.handle ask.block) (Answered (Refused (Behind from))) after
  asked_behind b after member from able faithful = record { able = able; went = λ e. absurd (cc e); faithful = faithful }

  -- ---- where there is room
  module _ (room : HasRoom rows ask.handle) where
    abbrev Marks : ℕ → List Mark → List (ℕ × MemberCause) → Type 0
    Marks n marks reasons = (reasons ≡ []) × (map id_of marks ≡ take n (ids ask.members))

    signs_alike : (b after : Bank) (member : Member) (heard : Heard) (outcome : Outcome) → Asked signs b view ask.members rows (left + 1) member (append_of ask.handle ask.block) heard after
        → IsOutcome accepts (claim ask) member.key heard outcome → IsMarked outcome × WentOn b view ask.members (set rows (row_of ask.handle ask.block)) left member after
    signs_alike b after member heard outcome was is =
        let did = append_signs signs b after view ask.members rows left member ask.handle ask.block heard was next room in
        let claimed : heard ≡ Answered (Signed (held (claim ask)) did.sig) = did.answered ∙ ap (λ (s : Statement). Answered (Signed s did.sig)) is_claim in
        let signed = subst (λ (s : Statement). signs member.key (statement_bytes s) did.sig ≡ true) is_claim did.signed in
        let mark = marked accepts signs ask b member did.sig outcome (ready.fits member.key (statement_bytes (held (claim ask))) did.sig signed)
        (subst (λ (h : Heard). IsOutcome accepts (claim ask) member.key h outcome) claimed is) in
        (subst IsMarked (sym mark) tt, append_holds signs b after view ask.members rows left member ask.handle ask.block heard was next room)

    never_behind : (b : Bank) (member : Member) → IsAble b view ask.members rows (left + 1) member → NotBehind signs b member.id ask
    never_behind b member able from after faithful =
        let did = append_signs signs b after view ask.members rows left member ask.handle ask.block (Answered (Refused (Behind from))) (asked_behind b after member from able faithful) next room in
        absurd (cc did.answered)

    one_mark : (n : ℕ) (member : Member) (sig : List ℕ) (marks : List Mark) (reasons : List (ℕ × MemberCause)) → IsAt ask.members n member → IsMarked (Marked sig) → Marks n marks reasons
        → Marks (suc n) (marks ++ record { id = member.id; sig = sig } ∷ []) reasons
    one_mark n member sig marks reasons is good lists = (
      lists.0,
      map-append id_of marks (record { id = member.id; sig = sig } ∷ []) ∙ ap (λ (l : List ℕ). l ++ member.id ∷ []) lists.1 ∙ sym (take_next ask.members n member is),
    )

    pub all_signed : (n : ℕ) (marks : List Mark) (reasons : List (ℕ × MemberCause)) (past : List Event) (after : Bank) → AreAsked accepts ask n marks reasons past → AreFaithful signs bank past after
        → Led accepts signs ask view rows (set rows (row_of ask.handle ask.block)) left bank ready.config.rising ready.able IsMarked Marks n marks reasons past after
    all_signed = leads accepts signs ask view rows (set rows (row_of ask.handle ask.block)) left bank ready.config.rising ready.able IsMarked Marks
        signs_alike never_behind (one_mark, λ n member cause marks reasons is good lists. absurd good) (refl, refl)

    pub signed_once : (state : State) (past : List Event) (after : Bank) → Sound accepts ask state past → AreFaithful signs bank past after → AsksOnce state.stage
    signed_once = asks_once accepts signs ask view rows (set rows (row_of ask.handle ask.block)) left bank ready.config.rising ready.able IsMarked Marks
        signs_alike never_behind (one_mark, λ n member cause marks reasons is good lists. absurd good) (refl, refl)

  -- ---- where there is none
  module _ (full : IsFull rows ask.handle) where
    abbrev Reasons : ℕ → List Mark → List (ℕ × MemberCause) → Type 0
    Reasons n marks reasons = (marks ≡ []) × (reasons ≡ map full_of (take n (ids ask.members)))

    refuse_alike : (b after : Bank) (member : Member) (heard : Heard) (outcome : Outcome) → Asked signs b view ask.members rows (left + 1) member (append_of ask.handle ask.block) heard after
        → IsOutcome accepts (claim ask) member.key heard outcome → IsBlamedFull outcome × WentOn b view ask.members rows left member after
    refuse_alike b after member heard outcome was is =
        let said = append_refused signs b after view ask.members rows left member ask.handle ask.block heard was next full in
        let blame = blamed accepts signs ask b member outcome (subst (λ (h : Heard). IsOutcome accepts (claim ask) member.key h outcome) said is) in
        (subst IsBlamedFull (sym blame) refl, append_full signs b after view ask.members rows left member ask.handle ask.block heard was next full)

    full_not_behind : (b : Bank) (member : Member) → IsAble b view ask.members rows (left + 1) member → NotBehind signs b member.id ask
    full_not_behind b member able from after faithful =
        let said = append_refused signs b after view ask.members rows left member ask.handle ask.block (Answered (Refused (Behind from))) (asked_behind b after member from able faithful) next full in
        absurd (cc said)

    one_reason : (n : ℕ) (member : Member) (cause : MemberCause) (marks : List Mark) (reasons : List (ℕ × MemberCause)) → IsAt ask.members n member → IsBlamedFull (Blamed cause) → Reasons n marks reasons
        → Reasons (suc n) marks (reasons ++ (member.id, cause) ∷ [])
    one_reason n member cause marks reasons is good lists = (
      lists.0,
      ap (λ (r : List (ℕ × MemberCause)). r ++ (member.id, cause) ∷ []) lists.1
          ∙ ap (λ (k : MemberCause). map full_of (take n (ids ask.members)) ++ (member.id, k) ∷ []) good
          ∙ sym (map-append full_of (take n (ids ask.members)) (member.id ∷ []))
          ∙ ap (map full_of) (sym (take_next ask.members n member is)),
    )

    pub all_refused : (n : ℕ) (marks : List Mark) (reasons : List (ℕ × MemberCause)) (past : List Event) (after : Bank) → AreAsked accepts ask n marks reasons past → AreFaithful signs bank past after
        → Led accepts signs ask view rows rows left bank ready.config.rising ready.able IsBlamedFull Reasons n marks reasons past after
    all_refused = leads accepts signs ask view rows rows left bank ready.config.rising ready.able IsBlamedFull Reasons
        refuse_alike full_not_behind (λ n member sig marks reasons is good lists. absurd good, one_reason) (refl, refl)

    pub refused_once : (state : State) (past : List Event) (after : Bank) → Sound accepts ask state past → AreFaithful signs bank past after → AsksOnce state.stage
    refused_once = asks_once accepts signs ask view rows rows left bank ready.config.rising ready.able IsBlamedFull Reasons
        refuse_alike full_not_behind (λ n member sig marks reasons is good lists. absurd good, one_reason) (refl, refl)
