-- The plain replies: what a script is answered by a map from labels to lists of payloads and a list of views.
use Rattle.std.specs.Prelude.{ℕ, ◌-◌, Bool, List, [], ◌∷◌, ◌++◌, length, fold, nat_lt, ◌==◌, if◌then◌else◌, Option}
use Rattle.std.specs.List.{slice_index_or, list_any, find}
use Rattle.std.specs.Option.{option_map_or}
use Rattle.std.specs.Str.{bytes_eq}
use Rattle.fault_script.specs.Command.{Request, New, Append, Latest, At, Reconfigure, Command, Genesis, Plain}
use Rattle.reply_lines.specs.Lines.{view_line, ok_line, conflict_line, absent_line}
use Rattle.reply_lines.specs.Causes.{gap_line, reused_line}

-- the payloads in the ledger of each label, the oldest first
abbrev pub Ledgers : Type 0
Ledgers = List ℕ → List (List ℕ)

-- these ledgers, and the ids of each view, from view 0 on
pub record Known : Type 0 where
  pub ledgers : Ledgers
  pub views : List (List ℕ)

abbrev pub nothing : Known
nothing = record { ledgers = λ label. []; views = [] }

-- these ledgers, with other payloads at one label
abbrev pub set : Ledgers → List ℕ → List (List ℕ) → Ledgers
set ledgers label payloads other = if bytes_eq other label then payloads else ledgers other

abbrev pub with_ledger : Known → List ℕ → List (List ℕ) → Known
with_ledger known label payloads = record known { ledgers = set known.ledgers label payloads }

-- whether an id stands in a view
abbrev pub is_used : List (List ℕ) → ℕ → Bool
is_used views id = list_any (λ ids. list_any (λ other. other == id) ids) views

-- the first of these ids that stands in a view
abbrev pub first_used : List (List ℕ) → List ℕ → Option ℕ
first_used views ids = find (is_used views) ids

-- what stands at the height, or that nothing does
abbrev pub at_reply : List (List ℕ) → List ℕ → ℕ → List ℕ
at_reply standing label height = if nat_lt height (length standing) then ok_line label height (slice_index_or standing height []) else gap_line label height

-- the newest payload, or that there is none
abbrev pub latest_reply : List (List ℕ) → List ℕ → List ℕ
latest_reply standing label = if length standing == 0 then absent_line label else ok_line label (length standing - 1) (slice_index_or standing (length standing - 1) [])

-- the payload comes next, another one stands there, or the one below lacks
abbrev pub append_reply : List (List ℕ) → List ℕ → ℕ → List ℕ → List ℕ
append_reply standing label height payload =
    if height == length standing then ok_line label height payload
    else (if nat_lt height (length standing) then conflict_line label height (slice_index_or standing height []) else gap_line label (height - 1))

-- a view that reuses no id of an earlier one is the next one
abbrev pub view_reply : List (List ℕ) → List ℕ → List ℕ
view_reply views ids = option_map_or reused_line (first_used views ids) (view_line (length views) ids)

abbrev pub reply_to_request : Known → Request → List ℕ
reply_to_request known (New client label payload) = ok_line label 0 payload
reply_to_request known (Append client label height payload) = append_reply (known.ledgers label) label height payload
reply_to_request known (Latest client label) = latest_reply (known.ledgers label) label
reply_to_request known (At client label height) = at_reply (known.ledgers label) label height
reply_to_request known (Reconfigure ids) = view_reply known.views ids

-- the lines that a line is answered: one where it is the first or asks for something, and else none
abbrev pub reply_to : Known → Command → List (List ℕ)
reply_to known (Genesis ids) = view_line 0 ids ∷ []
reply_to known (Plain request) = reply_to_request known request ∷ []
reply_to known _ = []

abbrev pub after_request : Known → Request → Known
after_request known (New client label payload) = with_ledger known label (payload ∷ [])
after_request known (Append client label height payload) =
    if height == length (known.ledgers label) then with_ledger known label (known.ledgers label ++ payload ∷ []) else known
after_request known (Latest client label) = known
after_request known (At client label height) = known
after_request known (Reconfigure ids) = option_map_or (λ id. known) (first_used known.views ids) (record known { views = known.views ++ ids ∷ [] })

-- what is known after a line
abbrev pub after : Known → Command → Known
after known (Genesis ids) = record known { views = ids ∷ [] }
after known (Plain request) = after_request known request
after known _ = known

-- what is known after these lines
abbrev pub known_after : List Command → Known
known_after commands = fold after nothing commands

-- the lines that these lines are answered, where this is known
abbrev pub replies : Known → List Command → List (List ℕ)
replies known [] = []
replies known (command ∷ commands) = reply_to known command ++ replies (after known command) commands
