-- Call lists: what contracts see of a line, the replay of lines, and which lists are lawful.
use Rattle.std.specs.Prelude.{◌≡◌, ℕ, Bool, true, List, [], ◌∷◌, Option, Some, None}
use Rattle.statement.specs.declared.member.Member.{Member}
use Rattle.statement.specs.declared.statement.Statement.{Statement}
use Rattle.statement.specs.Statement.{statement_bytes}
use Rattle.port.specs.Call.{Call}
use Rattle.port.specs.Answer.{Answer, Done, Signed, Finaled, Shown, Refused, kept}
use Rattle.port.specs.Table.{State, Uninitialized, cell, asked, outcome}

-- a stamp, what was asked, and what is kept of the answer
pub record Line : Type 0 where
  pub stamp : ℕ
  pub call : Call
  pub answer : Answer

-- the line of a call and its answer
abbrev pub line : ℕ → Call → Answer → Line
line stamp call answer = record { stamp = stamp; call = call; answer = kept answer }

-- the signature in an answer
abbrev pub sig_of : Answer → Option (List ℕ)
sig_of Done = None
sig_of (Signed statement sig) = Some sig
sig_of (Finaled statement sig map) = Some sig
sig_of (Shown phase number tail count) = None
sig_of (Refused denial) = None

-- the state after a line: that of the table, with the line's own signature
abbrev pub state_after : Member → State → Line → State
state_after me state last = (outcome state (cell me state last.call) (sig_of last.answer)).0

abbrev pub replay_from : Member → State → List Line → State
replay_from me state [] = state
replay_from me state (first ∷ lines) = replay_from me (state_after me state first) lines

-- the state after these lines
abbrev pub replay : Member → List Line → State
replay me lines = replay_from me Uninitialized lines

-- a signature that was asked for is one that the checker accepts under the key
abbrev pub IsAccepted : (List ℕ → List ℕ → List ℕ → Bool) → List ℕ → Option Statement → Option (List ℕ) → Type 0
IsAccepted accepts key None sig = Unit {0}
IsAccepted accepts key (Some statement) None = Unit {0}
IsAccepted accepts key (Some statement) (Some sig) = accepts key (statement_bytes statement) sig ≡ true

-- The answer is the table's. Any signature is lawful that the checker accepts under the member's key, and so is Spent
-- where one is asked for.
pub record IsLawfulAt (accepts : List ℕ → List ℕ → List ℕ → Bool) (me : Member) (state : State) (next : Line) : Type 0 where
  pub answer : kept (outcome state (cell me state next.call) (sig_of next.answer)).1 ≡ next.answer
  pub accepted : IsAccepted accepts me.key (asked (cell me state next.call)) (sig_of next.answer)

abbrev pub IsLawfulFrom : (List ℕ → List ℕ → List ℕ → Bool) → Member → State → List Line → Type 0
IsLawfulFrom accepts me state [] = Unit {0}
IsLawfulFrom accepts me state (first ∷ lines) = IsLawfulAt accepts me state first × IsLawfulFrom accepts me (state_after me state first) lines

-- each line is lawful after those before it
abbrev pub IsLawful : (List ℕ → List ℕ → List ℕ → Bool) → Member → List Line → Type 0
IsLawful accepts me lines = IsLawfulFrom accepts me Uninitialized lines
