-- The lines for what was taken, for a reply that was refused, and for an endorser's answer. Each has its line feed.
use Rattle.std.specs.Prelude.{ℕ, List, [], ◌∷◌, ◌++◌, codes}
use Rattle.std.specs.List.{flat_map}
use Rattle.std.specs.Fmt.{decimal}
use Rattle.fault_script.specs.Spelling.{spaced, joined}
use Rattle.statement.specs.declared.statement.Statement.{Statement}
use Rattle.statement.specs.declared.statement.Statement.TheVariants as statements
use Rattle.port.specs.Answer.{Answer, Done, Signed, Finaled, Shown, Refused}
use Rattle.verifier.specs.declared.reply_fault.ReplyFault.{ReplyFault}
use Rattle.reply_lines.specs.Names.{phase_word, denial_word, fault_word}

-- a word, and more words
abbrev pub line : List ℕ → List (List ℕ) → List ℕ
line word words = word ++ (spaced words ++ 10 ∷ [])

-- a view's number and its ids
abbrev pub view_line : ℕ → List ℕ → List ℕ
view_line number ids = line (codes "view") (decimal number ∷ joined ids ∷ [])

-- a label, a height and a payload
abbrev pub entry_values : List ℕ → ℕ → List ℕ → List (List ℕ)
entry_values label height payload = label ∷ decimal height ∷ (61 ∷ payload) ∷ []

abbrev pub ok_line : List ℕ → ℕ → List ℕ → List ℕ
ok_line label height payload = line (codes "ok") (entry_values label height payload)

abbrev pub conflict_line : List ℕ → ℕ → List ℕ → List ℕ
conflict_line label height payload = line (codes "conflict") (entry_values label height payload)

abbrev pub absent_line : List ℕ → List ℕ
absent_line label = line (codes "absent") (label ∷ [])

abbrev pub bad_reply_line : ReplyFault → List ℕ
bad_reply_line fault = line (codes "badreply") (fault_word fault ∷ [])

-- the count in a statement, 0 where it has none
abbrev pub count_in : Statement → ℕ
count_in (statements.Held view handle tail count) = count
count_in (statements.Latest view handle tail count nonce) = count
count_in statement = 0

-- what an endorser answered that was asked directly
abbrev pub raw_values : Answer → List (List ℕ)
raw_values Done = codes "done" ∷ []
raw_values (Signed statement sig) = codes "signed" ∷ decimal (count_in statement) ∷ []
raw_values (Finaled statement sig map) = codes "finaled" ∷ []
raw_values (Shown phase number tail count) = codes "shown" ∷ phase_word phase ∷ decimal count ∷ []
raw_values (Refused denial) = denial_word denial ∷ []

abbrev pub raw_line : Answer → List ℕ
raw_line answer = line (codes "raw") (raw_values answer)

abbrev pub no_reply_line : List ℕ
no_reply_line = line (codes "noreply") []

-- the name of an operation
abbrev pub done_line : List ℕ → List ℕ
done_line op = line (codes "done") (op ∷ [])
