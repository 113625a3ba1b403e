-- How a run ends: what it says to an input, and how much of that is written.
use Rattle.std.specs.Prelude.{◌≡◌, ◌⊎◌, ℕ, List, take, drop, Option, Some, IfSome, Result, Ok, Err, true}
use Rattle.std.specs.List.{concat}
use Rattle.std.specs.Io.KnownBytes.{Appends, Keeps}
use Rattle.nim_outside.specs.Causes.{Rose}
use Rattle.seal.specs.KeyBook.{book_accepts}
use Rattle.least_collision.specs.Collision.{IsLeastCollision, NoCollision}
use Rattle.fault_script.specs.declared.script_fault.ScriptFault.{ScriptFault}
use Rattle.fault_script.specs.declared.script_fault.ScriptFault.TheVariants as faults
use Rattle.fault_script.specs.Command.{Command}
use Rattle.fault_script.specs.Script.{script_of, is_plain}
use Rattle.client_pass.specs.Record.{Record, IsRecord}
use Rattle.world_run.specs.Plain.{nothing, replies}
use Rattle.world_run.specs.Printed.{MacPrints, MacPrintsFront}
use Rattle.script_runs.specs.Ids.{all_ids}
use Rattle.world_run.specs.Seals.{mac_texts}
use Rattle.world_run.specs.SetUp.{set_up_texts}
use Rattle.nimble.specs.Lines.{bad_line, exhibit_line}

-- no two texts that the script rests on have one digest
abbrev pub RestsOnNoCollision : List Command → Type 0
RestsOnNoCollision script = NoCollision (set_up_texts mac_texts script)

-- these are the lines that a run of the script printed, all of them, and its record
pub record AreReplies (script : List Command) (bytes : List ℕ) : Type 0 where
  pub apart : RestsOnNoCollision script
  pub made : Record
  pub printed : List (List ℕ)
  pub is_record : IsRecord (book_accepts all_ids) made
  pub prints : MacPrints script made printed
  pub bytes_are : bytes ≡ concat printed

-- two texts that the script rests on have one digest, and this is the line of the least such pair
pub record IsExhibit (script : List Command) (bytes : List ℕ) : Type 0 where
  pub one : List ℕ
  pub other : List ℕ
  pub least : IsLeastCollision (set_up_texts mac_texts script) one other
  pub bytes_are : bytes ≡ exhibit_line one other

-- what is said with which status to an input that reads so
abbrev pub IsSaid : ℕ → Result (List Command) ScriptFault → List ℕ → Type 0
IsSaid status (Ok script) bytes = ((status ≡ 0) × AreReplies script bytes) ⊎ ((status ≡ 3) × IsExhibit script bytes)
IsSaid status (Err (faults.BadLine number cause)) bytes = (status ≡ 2) × (bytes ≡ bad_line number cause)
IsSaid status (Err faults.NoMemory) bytes = ⊥

-- the first lines that a run of the script printed
pub record AreFirstReplies (script : List Command) (bytes : List ℕ) : Type 0 where
  pub apart : RestsOnNoCollision script
  pub printed : List (List ℕ)
  pub prints : MacPrintsFront script printed
  pub bytes_are : bytes ≡ concat printed

-- these bytes begin with what is said to an input that reads so, or with the first lines that are said
abbrev pub Begins : Result (List Command) ScriptFault → List ℕ → Type 0
Begins (Ok script) bytes = AreFirstReplies script bytes ⊎ IsExhibit script bytes
Begins (Err (faults.BadLine number cause)) bytes = bytes ≡ bad_line number cause
Begins (Err faults.NoMemory) bytes = ⊥

-- whole lines alone: the first ones that a run printed
abbrev pub BeginsWhole : Result (List Command) ScriptFault → List ℕ → Type 0
BeginsWhole (Ok script) bytes = AreFirstReplies script bytes
BeginsWhole (Err fault) bytes = ⊥

-- How the writing ends for an input that reads so: all that is said to it was written, the sink failed and a front was written, or
-- memory was wanted and nothing or whole lines were written.
abbrev pub Ends : ℕ → Result (List Command) ScriptFault → Option (List ℕ) → Option (List ℕ) → ℕ → ℕ → Type 0
Ends status read old new before now =
    ((bytes : List ℕ) × IsSaid status read bytes × Appends old new bytes)
    ⊎ (((bytes : List ℕ) × (n : ℕ) × (status ≡ 5) × Rose before now × Begins read bytes × Appends old new (take n bytes))
    ⊎ ((status ≡ 6) × (Keeps old new ⊎ ((bytes : List ℕ) × BeginsWhole read bytes × Appends old new bytes))))

-- where the input is told, what is said to it with this status was written, all of it
abbrev pub Says : ℕ → Option (List ℕ) → Option (List ℕ) → Option (List ℕ) → Type 0
Says status left old new = IfSome left (λ input. (bytes : List ℕ) × IsSaid status (script_of input) bytes × Appends old new bytes)

-- where the input is told and is a plain script, its plain replies were written
abbrev pub SaysPlainly : Option (List ℕ) → Option (List ℕ) → Option (List ℕ) → Type 0
SaysPlainly left old new =
    IfSome left (λ input. (script : List Command) → script_of input ≡ Ok script → is_plain script ≡ true → Appends old new (concat (replies nothing script)))

-- where the input is told, a front of what is said to it was written, or of its first lines
abbrev pub SaysFront : Option (List ℕ) → Option (List ℕ) → Option (List ℕ) → Type 0
SaysFront left old new = IfSome left (λ input. (bytes : List ℕ) × (n : ℕ) × Begins (script_of input) bytes × Appends old new (take n bytes))

-- where the input is told, whole lines were written, the first ones that are said to it
abbrev pub SaysFirst : Option (List ℕ) → Option (List ℕ) → Option (List ℕ) → Type 0
SaysFirst left old new = IfSome left (λ input. (bytes : List ℕ) × BeginsWhole (script_of input) bytes × Appends old new bytes)

-- where the input is told, it was read to its end or through 1,048,577 bytes, and no further
abbrev pub IsJudged : Option (List ℕ) → Option (List ℕ) → Type 0
IsJudged old new = IfSome old (λ input. new ≡ Some (drop 1048577 input))
