-- What the setting up of view 0 answers over an empty store.
use Rattle.std.specs.Prelude.{◌≡◌, ℕ, ◌+◌, List, None, Result, Ok, Err}
use Rattle.statement.specs.declared.member.Member.{Member}
use Rattle.port.specs.declared.key.Key.{Key}
use Rattle.port.specs.Cause.{Cause, NoMemory}
use Rattle.port.specs.Contents.{Contents}
use Rattle.port.specs.Link.{Bank}
use Rattle.port.specs.Table.{Uninitialized}
use Rattle.port.specs.View.{ViewRow}
use Rattle.view_ledger.specs.Receipts.{Accepts}
use Rattle.op_reconf.specs.First.{first_row}
use Rattle.calm.specs.Beginning.{IsInState}
use Rattle.calm.specs.Calls.{Later}
use Rattle.calm.specs.Calm.{IsCalm, new_service}
use Rattle.calm.specs.Members.{Signs, Fits, IsAt}

-- Nothing stands yet, whatever is signed is accepted, and no member was initialized; each has two stamps more than it is to have
-- left, and that many signatures.
pub record BeforeFirst : Type 0 where
  pub accepts : Accepts
  pub signs : Signs
  pub contents : Contents
  pub bank : Bank
  pub config : List Member
  pub left : ℕ
  pub fits : Fits accepts signs
  pub empty : (key : Key) → contents key ≡ None
  pub members : (place : ℕ) (member : Member) → IsAt config place member → IsInState bank Uninitialized (left + 2) left member

-- the view stands and the service is calm, or memory was wanted
abbrev pub CalmFirst : BeforeFirst → List Member → Result ViewRow Cause → Later → Type 0
CalmFirst first roster (Ok row) later =
    (row ≡ first_row first.config) × IsCalm (new_service first.accepts first.signs later.contents later.bank roster first.config later.left)
CalmFirst first roster (Err NoMemory) later = Unit {0}
CalmFirst first roster (Err cause) later = ⊥
