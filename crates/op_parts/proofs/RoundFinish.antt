-- The end of a member's turn.
use Rattle.std.proofs.Common.{◌≡◌, ◌⊎◌, inl, inr, ℕ, suc, ◌+◌, ◌==◌, Bool, true, false, if◌then◌else◌, List, [], ◌++◌, refl, sym, ◌∙◌, subst, ap, add-one}
use Rattle.std.specs.Prelude.{Result, Ok, Err}
use Rattle.nim_base.specs.declared.no_memory.NoMemory.{NoMemory}
use Rattle.statement.specs.declared.member.Member.{Member}
use Rattle.port.specs.Answer.{Denial, Behind, Refused}
use Rattle.port.specs.Cause.{Denied}
use Rattle.port.specs.Heard.{Heard, Answered}
use Rattle.port.specs.Trace.{Event}
use Rattle.view_ledger.specs.Receipts.{Accepts}
use Rattle.op_parts.specs.declared.round_progress.RoundProgress.{RoundProgress}
use Rattle.op_parts.specs.declared.round_progress.RoundProgress.TheVariants.{More, Asked}
use Rattle.op_parts.specs.declared.round_stage.Stage.{Stage}
use Rattle.op_parts.specs.declared.round_stage.Stage.TheVariants.{First, Ended}
use Rattle.op_parts.specs.declared.round_turn.Turn.{Turn}
use Rattle.op_parts.specs.declared.round_verdict.Claim.{Claim}
use Rattle.op_parts.specs.RoundAsking.{Asking, claim}
use Rattle.op_parts.specs.RoundOutcome.{Outcome, Marked, Blamed, IsOutcome, IsInPlace}
use Rattle.op_parts.specs.RoundTurn.{IsTurn, IsSettled, Ends}
use Rattle.op_parts.specs.RoundState.{State}
use Rattle.op_parts.specs.RoundSteps.{IsLower, recorded, passed, Finishes, Begins, TakesVerdict}
use Rattle.op_parts.specs.RoundSound.{IsMember, AreAsked, AtStage, Sound, Says}

-- a count that is below by its place is below the height
pub lower : (accepts : Accepts) (claim : Claim) (key : List ℕ) (heard : Heard) (outcome : Outcome)
    → IsOutcome accepts claim key heard outcome → IsLower claim.height outcome
lower accepts claim key (Answered (Refused denial)) (Blamed (Denied (Behind count))) is =
    subst (λ (d : Denial). IsInPlace claim.height d) (sym is.0) is.1
lower accepts claim key heard (Blamed (Denied (Behind count))) is = absurd is
lower accepts claim key heard outcome is = tt

-- a member that is behind was heard to be
pub heard_behind : (accepts : Accepts) (claim : Claim) (key : List ℕ) (heard : Heard) (from : ℕ)
    → IsOutcome accepts claim key heard (Blamed (Denied (Behind from))) → heard ≡ Answered (Refused (Behind from))
heard_behind accepts claim key (Answered (Refused denial)) from is = ap (λ (d : Denial). Answered (Refused d)) (sym is.0)
heard_behind accepts claim key heard from is = absurd is

-- the turn ends or a catch-up begins
pub either : (turn : Turn) (outcome : Outcome) (old new : State) (result : Result RoundProgress NoMemory) → TakesVerdict turn outcome old new result
    → (IsSettled outcome × Finishes turn outcome old new result)
    ⊎ ((from : ℕ) × (outcome ≡ Blamed (Denied (Behind from))) × Begins turn.member.id from old new × (result ≡ Ok More))
either turn (Blamed (Denied (Behind from))) old new result takes = inr (from, refl, takes.0, takes.1)
either turn outcome old new result takes = inl (tt, takes)

-- the calls by which a turn ends are those of a turn
pub ends_turn : (accepts : Accepts) (ask : Asking) (member : Member) (calls : List Event) (outcome : Outcome)
    → Ends accepts ask member calls outcome → IsTurn ask member.id calls
ends_turn accepts ask member calls outcome (inl e) = inl (e.0, e.1)
ends_turn accepts ask member calls outcome (inr (inl e)) = inr (inl (e.0, e.1, e.3))
ends_turn accepts ask member calls outcome (inr (inr e)) = inr (inr (e.0, e.1, e.2, e.3, e.4, e.5, e.6))

next_at : (ask : Asking) (n : ℕ) (last : Bool) → AtStage ask n (if last then Ended else First) []
next_at ask n true = inl refl
next_at ask n false = refl

-- one more member was asked
one_more : (accepts : Accepts) (ask : Asking) (old : State) (member : Member) (outcome : Outcome) (calls before : List Event)
    → IsMember ask old.asked member → Ends accepts ask member calls outcome → AreAsked accepts ask old.asked old.marks old.reasons before
    → AreAsked accepts ask (suc old.asked) (recorded member.id outcome old).marks (recorded member.id outcome old).reasons (calls ++ before)
one_more accepts ask old member (Marked sig) calls before is ends asked = (member, calls, before, is, refl, inl (sig, old.marks, refl, ends, asked))
one_more accepts ask old member (Blamed cause) calls before is ends asked = (member, calls, before, is, refl, inr (cause, old.reasons, refl, ends, asked))

same_row : (turn : Turn) (outcome : Outcome) (old : State) → ((passed turn.members (recorded turn.member.id outcome old)).handle ≡ old.handle)
    × ((passed turn.members (recorded turn.member.id outcome old)).block ≡ old.block)
    × ((recorded turn.member.id outcome old).asked ≡ old.asked)
same_row turn (Marked sig) old = (refl, refl, refl)
same_row turn (Blamed cause) old = (refl, refl, refl)

-- at the end of a turn its calls are those of one more member
pub finishes : (accepts : Accepts) (ask : Asking) (turn : Turn) (outcome : Outcome) (old new : State)
    (result : Result RoundProgress NoMemory) (calls before : List Event)
    → old.handle ≡ ask.handle → old.block ≡ ask.block → old.stage ≡ Ended → IsMember ask old.asked turn.member
    → Ends accepts ask turn.member calls outcome → AreAsked accepts ask old.asked old.marks old.reasons before
    → Finishes turn outcome old new result → Sound accepts ask new (calls ++ before)
finishes accepts ask turn outcome old new (Ok progress) calls before handle block ended is ends asked took =
    let same = same_row turn outcome old in
    let now : State = recorded turn.member.id outcome old in
    subst (λ (s : State). Sound accepts ask s (calls ++ before)) (sym took.0) (record {
      handle = same.0 ∙ handle;
      block = same.1 ∙ block;
      calls = [];
      before = calls ++ before;
      split = refl;
      asked = subst (λ (n : ℕ). AreAsked accepts ask n now.marks now.reasons (calls ++ before)) (sym (add-one old.asked) ∙ ap (λ (n : ℕ). n + 1) (sym same.2))
          (one_more accepts ask old turn.member outcome calls before is ends asked);
      at = next_at ask (now.asked + 1) (now.asked + 1 == turn.members);
    })
finishes accepts ask turn outcome old new (Err wanted) calls before handle block ended is ends asked took =
    subst (λ (s : State). Sound accepts ask s (calls ++ before)) (sym took) (record {
      handle = handle;
      block = block;
      calls = calls;
      before = before;
      split = refl;
      asked = asked;
      at = subst (λ (s : Stage). AtStage ask old.asked s calls) (sym ended) (inr (turn.member, is, ends_turn accepts ask turn.member calls outcome ends));
    })

says_next : (ask : Asking) (past : List Event) (event : Event) (last : Bool) → Says ask past event (Ok (if last then Asked else More))
says_next ask past event true = tt
says_next ask past event false = tt

-- the end of a turn refuses no row
pub says_finished : (ask : Asking) (past : List Event) (event : Event) (turn : Turn) (outcome : Outcome) (old new : State)
    (result : Result RoundProgress NoMemory) → Finishes turn outcome old new result → Says ask past event result
says_finished ask past event turn outcome old new (Ok progress) took =
    subst (λ (p : RoundProgress). Says ask past event (Ok p)) (sym took.1) (says_next ask past event (old.asked + 1 == turn.members))
says_finished ask past event turn outcome old new (Err wanted) took = tt
