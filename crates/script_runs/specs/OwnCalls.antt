-- The calls that a run's endorsers served, and the draws of its clients.
use Rattle.std.specs.Prelude.{◌≡◌, ℕ, Bool, true, false, List, [], ◌++◌}
use Rattle.std.specs.List.{AllByRecursion}
use Rattle.chain_block.specs.declared.entry.Entry.{Entry}
use Rattle.chain_block.specs.Entry.{entry_digest, handle_of, height_of}
use Rattle.fault_script.specs.Command.{Command, RawAppend, RawLatest, RawShow, RawFinalize}
use Rattle.port.specs.Call.{Call, Append}
use Rattle.port.specs.Link.{Served}
use Rattle.client_pass.specs.ClientPass.{ClientPass}
use Rattle.endorser_cell.specs.BankLine.{served_by}
use Rattle.endorser_cell.specs.CellBank.{CellBank}
use Rattle.answer_lines.specs.Draws.{DrewEntry}
use Rattle.script_world.specs.Running.{Running}

-- all calls that the endorsers of a run served so far, the newest first
abbrev pub served_in : {S C : Type 0} → Running (CellBank S C) C → List Served
served_in run = served_by [] run.state.link.log

-- Between the two these calls were served and no other, the newest first, and this holds of each.
pub record Serves {S C : Type 0} (old new : Running (CellBank S C) C) (P : Served → Type 0) : Type 0 where
  pub more : List Served
  pub served : served_in new ≡ more ++ served_in old
  pub each : AllByRecursion P more

-- a line that asks an endorser directly
abbrev pub is_raw : Command → Bool
is_raw (RawAppend id label height payload number) = true
is_raw (RawLatest id label number) = true
is_raw (RawShow id label) = true
is_raw (RawFinalize id ids) = true
is_raw _ = false

-- some client drew a nonce for this entry
abbrev pub WasDrawn : {C : Type 0} → List (ClientPass C) → Entry → Type 0
WasDrawn clients entry = (place : ℕ) × (draw : ℕ) × DrewEntry clients place draw entry

-- Where an append is asked for, it is of an entry that was drawn: of its ledger and its height, by the entry's digest.
abbrev pub IsOfDrawn : (Entry → Type 0) → Call → Type 0
IsOfDrawn drawn (Append handle prev entry height) =
    (own : Entry) × drawn own × (entry ≡ entry_digest own) × (handle ≡ handle_of own) × (height ≡ height_of own)
IsOfDrawn drawn call = Unit {0}
