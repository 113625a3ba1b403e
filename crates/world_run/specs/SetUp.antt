-- The texts whose digests a run rests on before it begins.
use Rattle.std.specs.Prelude.{ℕ, ◌+◌, List, [], ◌∷◌, ◌++◌, if◌then◌else◌}
use Rattle.std.specs.List.{flat_map, list_any}
use Rattle.std.specs.Option.{option_map_or}
use Rattle.std.specs.Str.{bytes_eq}
use Rattle.chain_block.specs.Bytes.{genesis_bytes}
use Rattle.fault_script.specs.Command.{Request, New, Append, Latest, At, Reconfigure, Command, Plain, Begin}
use Rattle.fault_script.specs.Labels.{label_of}
use Rattle.fault_script.specs.Within.{IsWithin}
use Rattle.script_world.specs.Nonce.{nonce}
use Rattle.script_runs.specs.Ids.{all_ids}

-- how many nonces are drawn
abbrev pub draws_of_request : Request → ℕ
draws_of_request (New client label payload) = 1
draws_of_request (Append client label height payload) = 1
draws_of_request (Latest client label) = 1
draws_of_request (At client label height) = 0
draws_of_request (Reconfigure ids) = 0

abbrev pub draws_of : Command → ℕ
draws_of (Plain request) = draws_of_request request
draws_of (Begin op request) = draws_of_request request
draws_of _ = 0

-- the first entry that is made with the nonce of this number, if one is
abbrev pub first_entry_of_request : ℕ → Request → List (List ℕ)
first_entry_of_request draw (New client label payload) = genesis_bytes (nonce draw) payload ∷ []
first_entry_of_request draw _ = []

abbrev pub first_entry : ℕ → Command → List (List ℕ)
first_entry draw (Plain request) = first_entry_of_request draw request
first_entry draw (Begin op request) = first_entry_of_request draw request
first_entry draw _ = []

-- the first entries that lines make, where so many nonces were drawn before
abbrev pub first_entries : ℕ → List Command → List (List ℕ)
first_entries draws [] = []
first_entries draws (command ∷ commands) = first_entry draws command ++ first_entries (draws + draws_of command) commands

-- the label that is made, if one is
abbrev pub made_by_request : Request → List (List ℕ)
made_by_request (New client label payload) = label ∷ []
made_by_request _ = []

abbrev pub made_by : Command → List (List ℕ)
made_by (Plain request) = made_by_request request
made_by (Begin op request) = made_by_request request
made_by _ = []

-- the text of a line's label that none of `made` is: 43 and the label
abbrev pub text_of_label : List (List ℕ) → List ℕ → List (List ℕ)
text_of_label made label = if list_any (bytes_eq label) made then [] else (0x43 ∷ label) ∷ []

abbrev pub label_text : List (List ℕ) → Command → List (List ℕ)
label_text made command = option_map_or (text_of_label made) (label_of command) []

-- the texts that lead to the keys, the first entries, and the texts of the labels that no line makes
abbrev pub set_up_texts : (ℕ → List (List ℕ)) → List Command → List (List ℕ)
set_up_texts texts_of commands = flat_map texts_of all_ids ++ (first_entries 0 commands ++ flat_map (label_text (flat_map made_by commands)) commands)

-- each command keeps the limits of its words
abbrev pub AllWithin : List Command → Type 0
AllWithin [] = Unit {0}
AllWithin (command ∷ commands) = IsWithin command × AllWithin commands
