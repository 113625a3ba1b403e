-- The refusal where all members were asked and no quorum stands.
use Rattle.std.specs.Prelude.{ℕ, nat_lt, if◌then◌else◌, List, [], ◌∷◌, map, Option, Some, None, unwrap_or}
use Rattle.std.specs.Option.{option_map, option_or}
use Rattle.port.specs.declared.reason.Reason.{Reason}
use Rattle.port.specs.Answer.{HasEnded, Stands, Full as MapFull}
use Rattle.port.specs.Cause.{MemberCause, Denied, member_cause_of, Cause, NoQuorum, ViewMoved, Contended, Full}
use Rattle.op_parts.specs.declared.round_refusal.Contention.{Contention}

-- the causes of reasons
abbrev pub causes : List (ℕ × Reason) → List (ℕ × MemberCause)
causes reasons = map (λ r. (r.0, member_cause_of r.1)) reasons

-- the first value that one of these gives
abbrev pub first_given : {Y : Type 0} → (ℕ → MemberCause → Option Y) → List (ℕ × MemberCause) → Option Y
first_given give [] = None
first_given give (reason ∷ reasons) = option_or (give reason.0 reason.1) (first_given give reasons)

-- the member answered that its view, of this number, has ended
abbrev pub moved : ℕ → ℕ → MemberCause → Option Cause
moved from id (Denied (HasEnded statement sig)) = Some (ViewMoved from id statement sig)
moved from id cause = None

-- the member answered that its map is full
abbrev pub full : ℕ → MemberCause → Option Cause
full id (Denied MapFull) = Some (Full id)
full id cause = None

-- the member answered that more stands than was called for
abbrev pub above : ℕ → ℕ → MemberCause → Option Contention
above first id (Denied (Stands count tail)) = if nat_lt first count then Some (record { member = id; first = first; later = count }) else None
above first id cause = None

abbrev pub contended : Contention → Cause
contended contention = Contended contention.member contention.first contention.later

-- a view that has ended comes before a map that is full, this before a count that is higher, and this before too few members
abbrev pub cause_without_quorum : ℕ → ℕ → Option Contention → List (ℕ × MemberCause) → Cause
cause_without_quorum from need higher reasons =
    unwrap_or (option_or (first_given (moved from) reasons) (option_or (first_given full reasons) (option_map contended higher))) (NoQuorum need reasons)
