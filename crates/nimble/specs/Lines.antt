-- The lines that stand in place of all reply lines, each with its line feed.
use Rattle.std.specs.Prelude.{ℕ, List, [], ◌∷◌, ◌++◌, codes}
use Rattle.std.specs.Fmt.{decimal}
use Rattle.hex.specs.Hex.{encode_lower}
use Rattle.fault_script.specs.declared.bad_cause.BadCause.{BadCause}
use Rattle.fault_script.specs.declared.bad_cause.BadCause.TheVariants as causes

-- a cause's name in small letters
abbrev pub cause_word : BadCause → List ℕ
cause_word causes.Long = codes "long"
cause_word causes.Char = codes "char"
cause_word causes.Order = codes "order"
cause_word causes.Word = codes "word"
cause_word causes.Count = codes "count"
cause_word causes.Name = codes "name"
cause_word causes.Number = codes "number"
cause_word causes.Ids = codes "ids"
cause_word causes.Payload = codes "payload"
cause_word causes.Label = codes "label"
cause_word causes.Op = codes "op"
cause_word causes.Many = codes "many"
cause_word causes.End = codes "end"

-- `badline NUMBER CAUSE`
abbrev pub bad_line : ℕ → BadCause → List ℕ
bad_line number cause = codes "badline" ++ (32 ∷ decimal number) ++ (32 ∷ cause_word cause) ++ 10 ∷ []

-- `exhibit collision ONE OTHER`, both texts in hexadecimal
abbrev pub exhibit_line : List ℕ → List ℕ → List ℕ
exhibit_line one other = codes "exhibit collision " ++ encode_lower one ++ (32 ∷ encode_lower other) ++ 10 ∷ []
