-- An endorser, and one step of it.
use Rattle.std.specs.Prelude.{◌≡◌, ℕ, ◌+◌, ◌<◌, ◌≤◌, List, length, Option, Some, None}
use Rattle.statement.specs.declared.member.Member.{Member}
use Rattle.statement.specs.declared.statement.Statement.{Statement}
use Rattle.statement.specs.Statement.{statement_bytes}
use Rattle.port.specs.Call.{Call}
use Rattle.port.specs.Answer.{Answer}
use Rattle.port.specs.Table.{State, Cell, cell, asked, outcome}

-- what contracts see of one: its id, its signer and checker, and its state in the table
pub record Endorser (S C : Type 0) : Type 0 where
  pub id : ℕ
  pub signer : S
  pub checker : C
  pub state : State

-- the endorser as the member that it is: its id and its signer's key
abbrev pub me : {S C : Type 0} → (S → List ℕ) → Endorser S C → Member
me key endorser = record { id = endorser.id; key = key endorser.signer }

-- what a signature left of the signer that made it
pub record Left {S : Type 0} (key : S → List ℕ) (left size : S → ℕ) (sig : List ℕ) (old new : S) : Type 0 where
  pub some : 0 < left old
  pub one : left old ≤ left new + 1
  pub no_more : left new ≤ left old
  pub length : length sig ≡ size old
  pub same_key : key new ≡ key old
  pub same_size : size new ≡ size old

-- What a signer did that was asked to sign this statement, or wasn't asked: it signed, it had no signature left, or it
-- stayed as it was.
abbrev pub HasSigned : {S : Type 0} → (S → List ℕ) → (S → ℕ) → (S → ℕ) → (S → List ℕ → List ℕ → S → Type 0) → Option Statement → Option (List ℕ) → S → S → Type 0
HasSigned key left size signs None sig old new = (sig ≡ None) × (new ≡ old)
HasSigned key left size signs (Some statement) None old new = (left old ≡ 0) × (new ≡ old)
HasSigned key left size signs (Some statement) (Some sig) old new = signs old (statement_bytes statement) sig new × Left key left size sig old new

-- By this cell, a state and a signer went on with this answer.
pub record Goes {S : Type 0} (key : S → List ℕ) (left size : S → ℕ) (signs : S → List ℕ → List ℕ → S → Type 0) (before : State) (cell : Cell) (old new : S) (after : State) (answer : Answer) : Type 0 where
  pub sig : Option (List ℕ)
  pub signer : HasSigned key left size signs (asked cell) sig old new
  pub goes : outcome before cell sig ≡ (after, answer)

-- By the table, the endorser went from old to new with this answer to the call.
pub record Steps {S C : Type 0} (key : S → List ℕ) (left size : S → ℕ) (signs : S → List ℕ → List ℕ → S → Type 0) (old new : Endorser S C) (call : Call) (answer : Answer) : Type 0 where
  pub table : Goes key left size signs old.state (cell (me key old) old.state call) old.signer new.signer new.state answer
  pub same_id : new.id ≡ old.id
  pub same_checker : new.checker ≡ old.checker
