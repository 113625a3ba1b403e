-- What a client did: what contracts see of it.
use Rattle.std.specs.Prelude.{ℕ, List, Option, IfSome, option_map}
use Rattle.chain_block.specs.declared.entry.Entry.{Entry}
use Rattle.chain_block.specs.Entry.{bare, IsWithinLimits}
use Rattle.port.specs.Reply.{Standing, LatestReply}
use Rattle.port.specs.View.{ViewRow}
use Rattle.view_ledger.specs.declared.view_fault.ViewFault.{ViewFault}
use Rattle.verifier.specs.declared.reply_fault.ReplyFault.{ReplyFault}
use Rattle.client_pass.specs.declared.client_act.ClientAct.{ClientAct}
use Rattle.client_pass.specs.declared.client_act.ClientAct.TheVariants as acts

-- A nonce, and the entry that it was drawn for; a draw's number, a reply and its fault; a draw's number, a handle, a
-- reply and its fault; twice a handle, a height, a reply and its fault; a view and its fault. Entries have no room
-- behind their payloads, and what was accepted has no fault.
pub data Act : Type 0 where
  Draw : List ℕ → Option Entry → Act
  Append : ℕ → Standing → Option ReplyFault → Act
  Latest : ℕ → List ℕ → LatestReply → Option ReplyFault → Act
  At : List ℕ → ℕ → Standing → Option ReplyFault → Act
  Look : List ℕ → ℕ → Standing → Option ReplyFault → Act
  View : ViewRow → Option ViewFault → Act

abbrev pub act_of : ClientAct → Act
act_of (acts.Draw nonce intent) = Draw nonce (option_map bare intent)
act_of (acts.Append draw reply fault) = Append draw reply fault
act_of (acts.Latest draw handle reply fault) = Latest draw handle reply fault
act_of (acts.At handle height reply fault) = At handle height reply fault
act_of (acts.Look handle height reply fault) = Look handle height reply fault
act_of (acts.View row fault) = View row fault

-- a stamp and what was done
pub record Line : Type 0 where
  pub stamp : ℕ
  pub act : Act

abbrev pub line : ℕ → Act → Line
line stamp act = record { stamp = stamp; act = act }

-- the entry that a nonce was drawn for is within the limits of entries
abbrev pub IsWithin : ClientAct → Type 0
IsWithin (acts.Draw nonce intent) = IfSome intent IsWithinLimits
IsWithin (acts.Append draw reply fault) = Unit {0}
IsWithin (acts.Latest draw handle reply fault) = Unit {0}
IsWithin (acts.At handle height reply fault) = Unit {0}
IsWithin (acts.Look handle height reply fault) = Unit {0}
IsWithin (acts.View row fault) = Unit {0}
