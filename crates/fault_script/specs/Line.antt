-- A line, judged where `earlier` are the commands of the lines before it. The causes stand in their order.
use Rattle.std.specs.Prelude.{ℕ, Bool, true, false, not, ◌&&◌, ◌||◌, List, [], ◌∷◌, ◌++◌, length, Option, Some, None, Result, Ok, Err, nat_le, ◌==◌, if◌then◌else◌, codes}
use Rattle.std.specs.Option.{ok_or}
use Rattle.std.specs.List.{list_all, list_any}
use Rattle.std.specs.Str.{bytes_eq}
use Rattle.fault_script.specs.declared.bad_cause.BadCause.{BadCause}
use Rattle.fault_script.specs.declared.bad_cause.BadCause.TheVariants as causes
use Rattle.fault_script.specs.Outcome.{◌>>=◌}
use Rattle.fault_script.specs.Words.{words, word_at}
use Rattle.fault_script.specs.Command.{Command, End}
use Rattle.fault_script.specs.Form.{form_of, word_count}
use Rattle.fault_script.specs.Reading.{command_in}
use Rattle.fault_script.specs.Labels.{is_used, makes_used_label}
use Rattle.fault_script.specs.Operations.{standing, misuses}
use Rattle.fault_script.specs.Limits.{counts_of, is_too_many}

-- 20 to 7E
abbrev pub is_text_byte : ℕ → Bool
is_text_byte b = nat_le 32 b && nat_le b 126

abbrev pub is_end : Command → Bool
is_end End = true
is_end _ = false

abbrev pub has_ended : List Command → Bool
has_ended commands = list_any is_end commands

-- whether a line follows `end`, or is the first one and doesn't begin with `genesis`, or another one and does
abbrev pub is_out_of_order : Bool → Bool → List ℕ → Bool
is_out_of_order first ended word = ended || (if first then not (bytes_eq word (codes "genesis")) else bytes_eq word (codes "genesis"))

-- what the words say alone
unfoldable pub command_of_words : List (List ℕ) → Result Command BadCause
command_of_words words = do
  form ← ok_or (form_of words) causes.Word
  if length words == word_count form then command_in form words else Err causes.Count

-- what a line says where it is the first one or not, and `end` stands before it or not
unfoldable pub command_of_line : Bool → Bool → List ℕ → Result Command BadCause
command_of_line first ended line =
    if list_all is_text_byte line
    then (if is_out_of_order first ended (word_at (words line) 0) then Err causes.Order else command_of_words (words line))
    else Err causes.Char

-- what is wrong with a command after these
abbrev pub fault_after : List Command → Command → Option BadCause
fault_after earlier command =
    if makes_used_label (is_used earlier) command then Some causes.Label
    else (if misuses (standing earlier) command then Some causes.Op
    else (if is_too_many (counts_of earlier) command then Some causes.Many
    else None))

abbrev pub unless : Option BadCause → Command → Result Command BadCause
unless None command = Ok command
unless (Some cause) command = Err cause

-- what a line says after these commands, or its first cause
unfoldable pub command_after : List Command → List ℕ → Result Command BadCause
command_after earlier line = do
  command ← command_of_line (length earlier == 0) (has_ended earlier) line
  unless (fault_after earlier command) command

-- these commands, and what a line says after them
abbrev pub commands_after : List Command → List ℕ → Result (List Command) BadCause
commands_after earlier line = command_after earlier line >>= λ command. Ok (earlier ++ command ∷ [])
