-- What the clauses of a run follow from.
use Rattle.std.proofs.Common.{◌≡◌, ◌⊎◌, inl, inr, ℕ, ◌≤◌, ◌<◌, List, ◌∷◌, [], ◌++◌, length, take, drop, Option, None, Some, IfSome, true, refl, sym, ap, subst, ◌∙◌, arith, Contains}
use Rattle.std.specs.Prelude.{Result, Ok, Err}
use Rattle.std.specs.List.{concat}
use Rattle.std.specs.Io.KnownBytes.{Appends, Consumes, Keeps}
use Rattle.std.proofs.lemmas.List.{append_cancel_left, length-take, take-append-drop, take_all}
use Rattle.std.proofs.lemmas.Bool.{lt-ltb, cases_lt}
use Rattle.nim_outside.specs.Causes.{Rose}
use Rattle.fault_script.specs.declared.bad_cause.BadCause.TheVariants as causes
use Rattle.fault_script.specs.declared.script_fault.ScriptFault.{ScriptFault}
use Rattle.fault_script.specs.declared.script_fault.ScriptFault.TheVariants as faults
use Rattle.fault_script.specs.Command.{Command}
use Rattle.fault_script.specs.Script.{is_plain, script_of}
use Rattle.world_run.specs.Plain.{nothing, replies}
use Rattle.nimble.specs.Ends.{AreReplies, Begins, BeginsWhole, Ends, IsJudged, IsSaid, Says, SaysFirst, SaysFront, SaysPlainly}

-- what is too long is no script
long_is_bad : (bytes : List ℕ) → 1048576 < length bytes → script_of bytes ≡ Err (faults.BadLine 0 causes.Long)
unfolding script_of
long_is_bad bytes long = rw (lt-ltb 1048576 (length bytes) long) refl

-- no script goes beyond the bytes that are read
pub script_of-take : (input : List ℕ) → script_of (take 1048577 input) ≡ script_of input
script_of-take input = elim (cases_lt 1048577 (length input)) [
  | inl long ↦ long_is_bad (take 1048577 input) (omega (arith, length-take 1048577 input)) ∙ sym (long_is_bad input (omega arith))
  | inr short ↦ ap script_of (take_all 1048577 input short)
]

-- the text that was read stands for the input
abbrev pub Read : Option (List ℕ) → List ℕ → Type 0
Read left text = IfSome left (λ input. text ≡ take 1048577 input)

-- what was read is what the input begins with, and the rest is left
pub judged : (old new : Option (List ℕ)) (text : List ℕ) → Read old text → Consumes old new text → IsJudged old new
judged None new text read took = tt
judged (Some input) None text read took = absurd took
judged (Some input) (Some rest) text read took =
    ap Some (append_cancel_left text rest (drop 1048577 input) (sym took ∙ sym (take-append-drop 1048577 input) ∙ ap (λ t. t ++ drop 1048577 input) (sym read)))

-- what holds of what the text reads as holds of the input
of_input : (Holds : Result (List Command) ScriptFault → Type 0) (left : Option (List ℕ)) (text : List ℕ) → Read left text → Holds (script_of text) → IfSome left (λ input. Holds (script_of input))
of_input Holds None text read holds = tt
of_input Holds (Some input) text read holds = subst Holds (ap script_of read ∙ script_of-take input) holds

said_status : (status : ℕ) (read : Result (List Command) ScriptFault) (bytes : List ℕ) → IsSaid status read bytes → (status ≡ 0) ⊎ ((status ≡ 2) ⊎ (status ≡ 3))
said_status status (Ok script) bytes (inl replies) = inl replies.0
said_status status (Ok script) bytes (inr exhibit) = inr (inr exhibit.0)
said_status status (Err (faults.BadLine number cause)) bytes bad = inr (inl bad.0)
said_status status (Err faults.NoMemory) bytes none = absurd none

low : (status : ℕ) → (status ≡ 0) ⊎ ((status ≡ 2) ⊎ (status ≡ 3)) → status ≤ 3
low status (inl is) = omega (arith, is)
low status (inr (inl is)) = omega (arith, is)
low status (inr (inr is)) = omega (arith, is)

known_low : (status : ℕ) → (status ≡ 0) ⊎ ((status ≡ 2) ⊎ (status ≡ 3)) → Contains (0 ∷ 2 ∷ 3 ∷ 4 ∷ 5 ∷ 6 ∷ []) status
known_low status (inl is) = (0, omega arith, sym is)
known_low status (inr (inl is)) = (1, omega arith, sym is)
known_low status (inr (inr is)) = (2, omega arith, sym is)

pub known : (status : ℕ) (read : Result (List Command) ScriptFault) (old new : Option (List ℕ)) (before now : ℕ) → Ends status read old new before now
    → Contains (0 ∷ 2 ∷ 3 ∷ 4 ∷ 5 ∷ 6 ∷ []) status
known status read old new before now (inl all) = known_low status (said_status status read all.0 all.1)
known status read old new before now (inr (inl failed)) = (4, omega arith, sym failed.2)
known status read old new before now (inr (inr wanted)) = (5, omega arith, sym wanted.0)

-- all that is said with this status was written
pub said : (wanted status : ℕ) (read : Result (List Command) ScriptFault) (old new : Option (List ℕ)) (before now : ℕ) → Ends status read old new before now
    → wanted ≤ 3 → status ≡ wanted → (bytes : List ℕ) × IsSaid wanted read bytes × Appends old new bytes
said wanted status read old new before now (inl all) few is = subst (λ (n : ℕ). (bytes : List ℕ) × IsSaid n read bytes × Appends old new bytes) is all
said wanted status read old new before now (inr (inl failed)) few is = absurd (omega (arith, few, is, failed.2))
said wanted status read old new before now (inr (inr wanting)) few is = absurd (omega (arith, few, is, wanting.0))

pub says : (wanted status : ℕ) (left old new : Option (List ℕ)) (text : List ℕ) (before now : ℕ) → Read left text → Ends status (script_of text) old new before now
    → wanted ≤ 3 → status ≡ wanted → Says wanted left old new
says wanted status left old new text before now read ends few is =
    of_input (λ script. (bytes : List ℕ) × IsSaid wanted script bytes × Appends old new bytes) left text read (said wanted status (script_of text) old new before now ends few is)

-- a plain script's replies are what was said
plain_replies : (script : List Command) (read : Result (List Command) ScriptFault) (old new : Option (List ℕ)) → ((bytes : List ℕ) × IsSaid 0 read bytes × Appends old new bytes)
    → read ≡ Ok script → is_plain script ≡ true → Appends old new (concat (replies nothing script))
plain_replies script (Ok own) old new (bytes, inl are, wrote) is plain =
    let same : own ≡ script = cc in
    let replied : AreReplies script bytes = subst (λ (commands : List Command). AreReplies commands bytes) same are.1 in
    subst (λ (bs : List ℕ). Appends old new bs) (replied.bytes_are ∙ ap concat (replied.prints.plain plain)) wrote
plain_replies script (Ok own) old new (bytes, inr exhibit, wrote) is plain = absurd (omega (arith, exhibit.0))
plain_replies script (Err (faults.BadLine number cause)) old new (bytes, bad, wrote) is plain = absurd (omega (arith, bad.0))
plain_replies script (Err faults.NoMemory) old new (bytes, bad, wrote) is plain = absurd bad

pub says_plainly : (left old new : Option (List ℕ)) → Says 0 left old new → SaysPlainly left old new
says_plainly None old new all = tt
says_plainly (Some input) old new all = λ script is plain. plain_replies script (script_of input) old new all is plain

-- a front was written, where the sink failed
front_said : (status : ℕ) (read : Result (List Command) ScriptFault) (old new : Option (List ℕ)) (before now : ℕ) → Ends status read old new before now
    → status ≡ 5 → Rose before now × ((bytes : List ℕ) × (n : ℕ) × Begins read bytes × Appends old new (take n bytes))
front_said status read old new before now (inl all) is = absurd (omega (arith, is, low status (said_status status read all.0 all.1)))
front_said status read old new before now (inr (inl failed)) is = (failed.3, (failed.0, failed.1, failed.4, failed.5))
front_said status read old new before now (inr (inr wanting)) is = absurd (omega (arith, is, wanting.0))

pub says_front : (status : ℕ) (left old new : Option (List ℕ)) (text : List ℕ) (before now : ℕ) → Read left text → Ends status (script_of text) old new before now
    → status ≡ 5 → Rose before now × SaysFront left old new
says_front status left old new text before now read ends is =
    let front = front_said status (script_of text) old new before now ends is in
    (front.0, of_input (λ script. (bytes : List ℕ) × (n : ℕ) × Begins script bytes × Appends old new (take n bytes)) left text read front.1)

-- nothing or whole lines were written, where memory was wanted
first_said : (status : ℕ) (read : Result (List Command) ScriptFault) (old new : Option (List ℕ)) (before now : ℕ) → Ends status read old new before now
    → status ≡ 6 → Keeps old new ⊎ ((bytes : List ℕ) × BeginsWhole read bytes × Appends old new bytes)
first_said status read old new before now (inl all) is = absurd (omega (arith, is, low status (said_status status read all.0 all.1)))
first_said status read old new before now (inr (inl failed)) is = absurd (omega (arith, is, failed.2))
first_said status read old new before now (inr (inr wanting)) is = wanting.1

pub says_first : (status : ℕ) (left rest old new : Option (List ℕ)) (text : List ℕ) (before now : ℕ) → Read left text → Consumes left rest text
    → Ends status (script_of text) old new before now → status ≡ 6 → Keeps old new ⊎ (SaysFirst left old new × IsJudged left rest)
says_first status left rest old new text before now read took ends is = elim (first_said status (script_of text) old new before now ends is) [
  | inl keeps ↦ inl keeps
  | inr lines ↦ inr (
    of_input (λ script. (bytes : List ℕ) × BeginsWhole script bytes × Appends old new bytes) left text read lines,
    judged left rest text read took,
  )
]
