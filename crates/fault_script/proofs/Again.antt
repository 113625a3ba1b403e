-- What is written reads as the same script, and each of its commands fits after those before it.
use Rattle.std.proofs.Common.{subst, ◌≡◌, refl, sym, ap, ◌∙◌, Bool, true, false, cond, ℕ, ◌+◌, ◌≤◌, List, [], ◌∷◌, ◌++◌, length, take, map, append_assoc, Result, Ok, Err, ltb, arith}
use Rattle.std.proofs.lemmas.Bool.{ltb-false, le-ltb}
use Rattle.std.proofs.lemmas.List.{append-nil, length-map, length-take}
use Rattle.std.proofs.lemmas.List.Folds.{flat_map-map}
use Rattle.fault_script.specs.declared.bad_cause.BadCause.{BadCause}
use Rattle.fault_script.specs.declared.bad_cause.BadCause.TheVariants as causes
use Rattle.fault_script.specs.declared.script_fault.ScriptFault.{ScriptFault}
use Rattle.fault_script.specs.declared.script_fault.ScriptFault.TheVariants as faults
use Rattle.fault_script.specs.Command.{Command}
use Rattle.fault_script.specs.Line.{has_ended, command_after}
use Rattle.fault_script.specs.Script.{and_then, lines, read_after, script_of}
use Rattle.fault_script.specs.Within.{AllFit}
use Rattle.fault_script.specs.Spelling.{line_text, whole_text, text_of}
use Rattle.fault_script.proofs.CommandLimits.{line_fits}
use Rattle.fault_script.proofs.SpelledLines.{line_written}
use Rattle.fault_script.proofs.Texts.{ended, same_lines}

record Step (r : Result Command BadCause) (f : Command → Result (List Command) ScriptFault) (all : List Command) : Type 0 where
  command : Command
  read : r ≡ Ok command
  rest : f command ≡ Ok all

step : (r : Result Command BadCause) (f : Command → Result (List Command) ScriptFault) (number : ℕ) (all : List Command) → and_then r f number ≡ Ok all → Step r f all
step (Ok command) f number all h = record { command = command; read = refl; rest = h }
step (Err cause) f number all h = cc

-- the commands that lines add, written as they stood
record Added (earlier : List Command) (ls : List (List ℕ)) (all : List Command) : Type 0 where
  more : List Command
  are : all ≡ earlier ++ more
  written : map line_text more ≡ ls
  fit : AllFit earlier more
  over : has_ended all ≡ true

if_ended : (b : Bool) (earlier all : List Command) (fault : ScriptFault) → cond b (Ok earlier) (Err fault) ≡ Ok all → earlier ≡ all
if_ended true earlier all fault h = cc
if_ended false earlier all fault h = cc

if_over : (b : Bool) (earlier all : List Command) (fault : ScriptFault) → cond b (Ok earlier) (Err fault) ≡ Ok all → b ≡ true
if_over true earlier all fault h = refl
if_over false earlier all fault h = cc

added : (ls : List (List ℕ)) (earlier all : List Command) → read_after earlier ls ≡ Ok all → Added earlier ls all
added [] earlier all h =
    let missing = faults.BadLine (length earlier + 1) causes.End in
    let same : earlier ≡ all = if_ended (has_ended earlier) earlier all missing h in
    record {
      more = [];
      are = sym same ∙ sym (append-nil earlier);
      written = refl;
      fit = tt;
      over = ap has_ended (sym same) ∙ if_over (has_ended earlier) earlier all missing h;
    }
added (line ∷ ls) earlier all h =
    let s = step (command_after earlier line) (λ command. read_after (earlier ++ command ∷ []) ls) (length earlier + 1) all h in
    let rest = added ls (earlier ++ s.command ∷ []) all s.rest in
    record {
      more = s.command ∷ rest.more;
      are = rest.are ∙ append_assoc earlier (s.command ∷ []) rest.more;
      written = ap (λ l. l ∷ map line_text rest.more) (line_written earlier line s.command s.read) ∙ ap (λ l. line ∷ l) rest.written;
      fit = (line_fits earlier line s.command s.read, rest.fit);
      over = rest.over;
    }

whole_is : (text : List ℕ) (commands : List Command) → read_after [] (lines text) ≡ Ok commands → whole_text commands ≡ ended (lines text)
whole_is text commands h =
    let a = added (lines text) [] commands h in
    let same : map line_text commands ≡ lines text = ap (map line_text) a.are ∙ a.written in
    sym (flat_map-map (λ line. line ++ 10 ∷ []) line_text commands) ∙ ap ended same

if_within : (b : Bool) (rest : Result (List Command) ScriptFault) (fault : ScriptFault) (all : List Command) → cond b (Err fault) rest ≡ Ok all → (b ≡ false) × (rest ≡ Ok all)
if_within true rest fault all h = cc
if_within false rest fault all h = (refl, h)

-- a script of at most n bytes and m lines
abbrev within : ℕ → ℕ → ScriptFault → ScriptFault → List ℕ → Result (List Command) ScriptFault
within n m long many text = cond (ltb n (length text)) (Err long) (cond (ltb m (length (lines text))) (Err many) (read_after [] (lines text)))

again : (n m : ℕ) (long many : ScriptFault) (text : List ℕ) (commands : List Command) → within n m long many text ≡ Ok commands → within n m long many (take n (whole_text commands)) ≡ Ok commands
again n m long many text commands h =
    let bytes = if_within (ltb n (length text)) (cond (ltb m (length (lines text))) (Err many) (read_after [] (lines text))) long commands h in
    let count = if_within (ltb m (length (lines text))) (read_after [] (lines text)) many commands bytes.1 in
    let whole = whole_text commands in
    let same : lines (take n whole) ≡ lines text = same_lines n text whole (ltb-false n (length text) bytes.0) (whole_is text commands count.1) in
    let fits : length (take n whole) ≤ n = omega (arith, length-take n whole) in
    ap (λ b. cond b (Err long) (cond (ltb m (length (lines (take n whole)))) (Err many) (read_after [] (lines (take n whole))))) (le-ltb n (length (take n whole)) fits)
    ∙ ap (λ ls. cond (ltb m (length ls)) (Err many) (read_after [] ls)) same
    ∙ bytes.1

pub reads_again : (text : List ℕ) (commands : List Command) → script_of text ≡ Ok commands → script_of (text_of commands) ≡ Ok commands
unfolding script_of text_of
reads_again text commands h = again 1048576 65536 (faults.BadLine 0 causes.Long) (faults.BadLine 65537 causes.Long) text commands h

pub record Whole (m : ℕ) (commands : List Command) : Type 0 where
  pub fit : AllFit [] commands
  pub over : has_ended commands ≡ true
  pub count : length commands ≤ m

kept_whole : (n m : ℕ) (long many : ScriptFault) (text : List ℕ) (commands : List Command) → within n m long many text ≡ Ok commands → Whole m commands
kept_whole n m long many text commands h =
    let bytes = if_within (ltb n (length text)) (cond (ltb m (length (lines text))) (Err many) (read_after [] (lines text))) long commands h in
    let count = if_within (ltb m (length (lines text))) (read_after [] (lines text)) many commands bytes.1 in
    let a = added (lines text) [] commands count.1 in
    let as_many : length commands ≡ length (lines text) = ap length a.are ∙ sym (length-map a.more line_text) ∙ ap length a.written in
    record { fit = subst (AllFit []) (sym a.are) a.fit; over = a.over; count = omega (arith, as_many, ltb-false m (length (lines text)) count.0) }

pub scripts_are_whole : (text : List ℕ) (commands : List Command) → script_of text ≡ Ok commands → Whole 65536 commands
unfolding script_of
scripts_are_whole text commands h = kept_whole 1048576 65536 (faults.BadLine 0 causes.Long) (faults.BadLine 65537 causes.Long) text commands h
