-- One member's turn in a round, where its endorser is faithful and not behind.
use Rattle.std.proofs.Common.{◌≡◌, ◌≢◌, inl, inr, ℕ, true, List, [], ◌∷◌, ◌++◌, refl, subst, ap}
use Rattle.statement.specs.declared.member.Member.{Member}
use Rattle.statement.specs.Statement.{statement_bytes}
use Rattle.port.specs.Answer.{Denial, Signed, Refused, Behind, Full}
use Rattle.port.specs.Cause.{Denied, OtherTail}
use Rattle.port.specs.Heard.{Heard, Answered, NoMemory}
use Rattle.port.specs.Link.{Bank, IsFaithful}
use Rattle.port.specs.Trace.{Event, AtStore, AtLink, AreFaithful}
use Rattle.catch_up.specs.OwnCalls.{append_of}
use Rattle.view_ledger.specs.Receipts.{Accepts}
use Rattle.op_parts.specs.RoundAsking.{Asking, claim, append_to}
use Rattle.op_parts.specs.RoundOutcome.{Outcome, Marked, Blamed, held, IsOutcome}
use Rattle.op_parts.specs.RoundTurn.{WasBehind, Ends}
use Rattle.calm.specs.Members.{Signs}

-- what endorsers became by the older of some calls, and then by the newer
pub record Between (signs : Signs) (bank : Bank) (newer older : List Event) (after : Bank) : Type 0 where
  pub middle : Bank
  pub older_calls : AreFaithful signs bank older middle
  pub newer_calls : AreFaithful signs middle newer after

pub between : (signs : Signs) (bank : Bank) (newer older : List Event) (after : Bank) → AreFaithful signs bank (newer ++ older) after → Between signs bank newer older after
between signs bank [] older after faithful = record { middle = after; older_calls = faithful; newer_calls = refl }
between signs bank (AtStore call answer ∷ newer) older after faithful =
    let b = between signs bank newer older after faithful in
    record { middle = b.middle; older_calls = b.older_calls; newer_calls = b.newer_calls }
between signs bank (AtLink id call heard ∷ newer) older after faithful =
    let b = between signs bank newer older faithful.0 faithful.1 in
    record { middle = b.middle; older_calls = b.older_calls; newer_calls = (faithful.0, b.newer_calls, faithful.2) }

-- one call alone
pub one_call : (signs : Signs) (bank after : Bank) (id : ℕ) (ask : Asking) (heard : Heard) → AreFaithful signs bank (append_to ask id heard ∷ []) after
    → IsFaithful signs bank id (append_of ask.handle ask.block) heard after
one_call signs bank after id ask heard faithful =
    subst (λ (b : Bank). IsFaithful signs b id (append_of ask.handle ask.block) heard after) faithful.1 faithful.2

-- the member isn't behind
abbrev pub NotBehind : Signs → Bank → ℕ → Asking → Type 0
NotBehind signs bank id ask = (from : ℕ) (after : Bank) → IsFaithful signs bank id (append_of ask.handle ask.block) (Answered (Refused (Behind from))) after → ⊥

-- a turn of one append, what was heard, and what came of it
pub record Turn (accepts : Accepts) (signs : Signs) (ask : Asking) (bank : Bank) (member : Member) (calls : List Event) (outcome : Outcome) (after : Bank) : Type 0 where
  pub heard : Heard
  pub calls_are : calls ≡ append_to ask member.id heard ∷ []
  pub is : IsOutcome accepts (claim ask) member.key heard outcome
  pub faithful : IsFaithful signs bank member.id (append_of ask.handle ask.block) heard after

module _ (accepts : Accepts) (signs : Signs) (ask : Asking) (bank : Bank) (member : Member) where
  pub not_caught_up : NotBehind signs bank member.id ask → (from : ℕ) (later calls : List Event) (after : Bank) → WasBehind ask member.id from later calls → AreFaithful signs bank calls after → ⊥
  not_caught_up never from later calls after was faithful =
      let whole = subst (λ (c : List Event). AreFaithful signs bank c after) was.split faithful in
      let b = between signs bank later (append_to ask member.id (Answered (Refused (Behind from))) ∷ []) after whole in
      never from b.middle (one_call signs bank b.middle member.id ask (Answered (Refused (Behind from))) b.older_calls)

  pub turn : NotBehind signs bank member.id ask → (calls : List Event) (outcome : Outcome) (after : Bank) → Ends accepts ask member calls outcome → AreFaithful signs bank calls after
      → Turn accepts signs ask bank member calls outcome after
  turn never calls outcome after (inl e) faithful = record {
    heard = e.0;
    calls_are = e.1;
    is = e.2;
    faithful = one_call signs bank after member.id ask e.0 (subst (λ (c : List Event). AreFaithful signs bank c after) e.1 faithful);
  }
  turn never calls outcome after (inr (inl e)) faithful = absurd (not_caught_up never e.0 e.1 calls after e.3 faithful)
  turn never calls outcome after (inr (inr e)) faithful =
      let whole = subst (λ (c : List Event). AreFaithful signs bank c after) e.4 faithful in
      absurd (not_caught_up never e.0 e.1 e.2 whole.0 e.5 whole.1)

  -- where memory was wanted there is no outcome
  pub was_heard : (heard : Heard) (outcome : Outcome) → IsOutcome accepts (claim ask) member.key heard outcome → heard ≢ NoMemory
  was_heard heard outcome is none = absurd (no_outcome outcome (subst (λ (h : Heard). IsOutcome accepts (claim ask) member.key h outcome) none is))
    where
      no_outcome : (o : Outcome) → IsOutcome accepts (claim ask) member.key NoMemory o → ⊥
      no_outcome o i = i

  -- an accepted signature is a mark
  pub marked : (sig : List ℕ) (outcome : Outcome) → accepts member.key (statement_bytes (held (claim ask))) sig ≡ true
      → IsOutcome accepts (claim ask) member.key (Answered (Signed (held (claim ask)) sig)) outcome → outcome ≡ Marked sig
  marked sig (Marked mark) accepted is = ap Marked is.0
  marked sig (Blamed (OtherTail count tail)) accepted is = absurd (is.0 (refl, accepted))
  marked sig (Blamed cause) accepted is = absurd is

  -- and a map that is full is a reason
  pub blamed : (outcome : Outcome) → IsOutcome accepts (claim ask) member.key (Answered (Refused Full)) outcome → outcome ≡ Blamed (Denied Full)
  blamed (Blamed (Denied denial)) is = ap (λ (d : Denial). Blamed (Denied d)) is.0
  blamed (Blamed (OtherTail count tail)) is = absurd is.0
  blamed outcome is = absurd is
