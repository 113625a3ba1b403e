-- The lines for what a service refused.
use Rattle.std.specs.Prelude.{ℕ, List, [], ◌∷◌, ◌++◌, map, codes}
use Rattle.std.specs.Fmt.{decimal}
use Rattle.chain_block.specs.declared.entry.Entry.{Entry}
use Rattle.chain_block.specs.declared.entry.Entry.TheVariants as entries
use Rattle.chain_block.specs.Entry.{height_of}
use Rattle.port.specs.declared.key.Key.{Key}
use Rattle.port.specs.declared.key.Key.TheVariants as keys
use Rattle.port.specs.Cause.{Cause, MemberCause, Conflict, Gap, NoQuorum, ViewMoved, StoreFault, BadRow, Contended, Full, TooFar, Reused, NoMemory}
use Rattle.reply_lines.specs.Names.{reason_word}
use Rattle.reply_lines.specs.Lines.{line, conflict_line}

abbrev pub payload_of : Entry → List ℕ
payload_of (entries.Genesis nonce payload) = payload.bytes
payload_of (entries.Later handle height nonce payload) = payload.bytes

-- an id, a colon and its reason
abbrev pub reason_value : ℕ × MemberCause → List ℕ
reason_value reason = decimal reason.0 ++ 58 ∷ reason_word reason.1

-- a row by its ledger's label and its height; a view and what ended the one below by the number
abbrev pub bad_row_line : List ℕ → Key → List ℕ
bad_row_line label (keys.Row handle height) = line (codes "badrow") (label ∷ decimal height ∷ [])
bad_row_line label (keys.View number) = line (codes "badview") (decimal number ∷ [])
bad_row_line label (keys.Finals number) = line (codes "badfinals") (decimal number ∷ [])

abbrev pub gap_line : List ℕ → ℕ → List ℕ
gap_line label missing = line (codes "gap") (label ∷ decimal missing ∷ [])

abbrev pub reused_line : ℕ → List ℕ
reused_line id = line (codes "reused") (decimal id ∷ [])

-- The label is that of the ledger of which the cause speaks. Want of memory has no line.
abbrev pub refusal_line : List ℕ → Cause → List ℕ
refusal_line label (Conflict standing) = conflict_line label (height_of standing.row.entry) (payload_of standing.row.entry)
refusal_line label (Gap handle missing) = gap_line label missing
refusal_line label (NoQuorum need reasons) = line (codes "noquorum") (decimal need ∷ map reason_value reasons)
refusal_line label (ViewMoved from id statement sig) = line (codes "viewmoved") (decimal from ∷ [])
refusal_line label StoreFault = line (codes "storefault") []
refusal_line label (BadRow key bytes) = bad_row_line label key
refusal_line label (Contended member first later) = line (codes "contended") (decimal member ∷ decimal first ∷ decimal later ∷ [])
refusal_line label (Full member) = line (codes "full") []
refusal_line label (TooFar needed) = line (codes "toofar") (decimal needed ∷ [])
refusal_line label (Reused id) = reused_line id
refusal_line label NoMemory = []
