-- A script, from the whole text.
use Rattle.std.specs.Prelude.{◌≡◌, ℕ, Bool, true, false, List, [], ◌∷◌, ◌++◌, ◌+◌, ◌-◌, length, take, Result, Ok, Err, nat_lt, ◌==◌, if◌then◌else◌}
use Rattle.std.specs.List.{list_all, slice_split}
use Rattle.fault_script.specs.declared.bad_cause.BadCause.{BadCause}
use Rattle.fault_script.specs.declared.bad_cause.BadCause.TheVariants as causes
use Rattle.fault_script.specs.declared.script_fault.ScriptFault.{ScriptFault}
use Rattle.fault_script.specs.declared.script_fault.ScriptFault.TheVariants as faults
use Rattle.fault_script.specs.Words.{word_at}
use Rattle.fault_script.specs.Command.{Command, Genesis, Plain, Restart, End}
use Rattle.fault_script.specs.Line.{has_ended, command_after}

-- the lists without the last one where that is empty
abbrev pub without_empty_last : List (List ℕ) → List (List ℕ)
without_empty_last parts = if length (word_at parts (length parts - 1)) == 0 then take (length parts - 1) parts else parts

-- the lines, each ended by a line feed; what follows the last line feed is a line where it isn't empty
abbrev pub lines : List ℕ → List (List ℕ)
lines text = without_empty_last (slice_split (λ b. b == 10) text)

abbrev pub and_then : Result Command BadCause → (Command → Result (List Command) ScriptFault) → ℕ → Result (List Command) ScriptFault
and_then (Ok command) rest number = rest command
and_then (Err cause) rest number = Err (faults.BadLine number cause)

-- all commands, where these come before the lines, or the first bad line, from 1, with its first cause
abbrev pub read_after : List Command → List (List ℕ) → Result (List Command) ScriptFault
read_after earlier [] = if has_ended earlier then Ok earlier else Err (faults.BadLine (length earlier + 1) causes.End)
read_after earlier (line ∷ rest) = and_then (command_after earlier line) (λ command. read_after (earlier ++ command ∷ []) rest) (length earlier + 1)

-- the script that a text is, or its first bad line: 0 where there are more than 1,048,576 bytes, 65,537 where there are
-- more than 65,536 lines
unfoldable pub script_of : List ℕ → Result (List Command) ScriptFault
script_of text =
    if nat_lt 1048576 (length text) then Err (faults.BadLine 0 causes.Long)
    else (if nat_lt 65536 (length (lines text)) then Err (faults.BadLine 65537 causes.Long)
    else read_after [] (lines text))

abbrev pub Fails : ScriptFault → Result (List Command) ScriptFault → Type 0
Fails faults.NoMemory read = Unit {0}
Fails (faults.BadLine number cause) read = read ≡ Err (faults.BadLine number cause)

abbrev pub is_plain_command : Command → Bool
is_plain_command (Genesis ids) = true
is_plain_command (Plain request) = true
is_plain_command Restart = true
is_plain_command End = true
is_plain_command _ = false

-- whether a script has only `genesis`, `new`, `append`, `latest`, `at`, `reconfigure`, `restart` and `end` lines
abbrev pub is_plain : List Command → Bool
is_plain commands = list_all is_plain_command commands

abbrev pub Gives : Result (List Command) ScriptFault → Result (List Command) ScriptFault → Type 0
Gives (Ok commands) read = read ≡ Ok commands
Gives (Err fault) read = Fails fault read
