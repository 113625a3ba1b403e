-- A line that was read is written with its own words: what the forms share.
use Rattle.std.proofs.Common.{◌≡◌, sym, ap, subst, ◌∙◌, ℕ, List, ◌∷◌, ◌++◌, Result, Ok, append_assoc}
use Rattle.std.specs.List.{join_with_byte}
use Rattle.fault_script.specs.declared.bad_cause.BadCause.{BadCause}
use Rattle.fault_script.specs.Command.{Command}
use Rattle.fault_script.specs.Words.{word_at}
use Rattle.fault_script.specs.Spelling.{spaced, opening, values, line_text}
use Rattle.fault_script.proofs.Spelled.{spaced_is}

-- a line is written as these words with one space between each two
abbrev pub IsWritten : List (List ℕ) → Command → Type 0
IsWritten words command = line_text command ≡ join_with_byte 32 words

-- a line that begins with one word of its own
pub after_one : (command : Command) (words : List (List ℕ)) (first : List ℕ) (rest : List (List ℕ))
    → words ≡ first ∷ rest → opening command ≡ first → values command ≡ rest → IsWritten words command
after_one command words first rest split begins same =
    ap (λ text. text ++ spaced (values command)) begins ∙ ap (λ vs. first ++ spaced vs) same ∙ spaced_is first rest ∙ ap (join_with_byte 32) (sym split)

-- a line that begins with two
pub after_two : (command : Command) (words : List (List ℕ)) (first second : List ℕ) (rest : List (List ℕ))
    → words ≡ first ∷ second ∷ rest → opening command ≡ first ++ 32 ∷ second → values command ≡ rest → IsWritten words command
after_two command words first second rest split begins same =
    ap (λ text. text ++ spaced (values command)) begins ∙ ap (λ vs. (first ++ 32 ∷ second) ++ spaced vs) same
    ∙ append_assoc first (32 ∷ second) (spaced rest) ∙ spaced_is first (second ∷ rest) ∙ ap (join_with_byte 32) (sym split)

pub two_words : (words : List (List ℕ)) (one other : List ℕ) → word_at words 0 ≡ one → word_at words 1 ≡ other → one ++ 32 ∷ other ≡ word_at words 0 ++ 32 ∷ word_at words 1
two_words words one other a b = ap (λ text. text ++ 32 ∷ other) (sym a) ∙ ap (λ text. word_at words 0 ++ 32 ∷ text) (sym b)

pub made : (words : List (List ℕ)) (one command : Command) → ◌≡◌ {A = Result Command BadCause} (Ok one) (Ok command) → IsWritten words one → IsWritten words command
made words one command h written = let same : one ≡ command = cc in subst (IsWritten words) same written
