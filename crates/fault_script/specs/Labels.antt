-- Which labels lines use, and which they make.
use Rattle.std.specs.Prelude.{ℕ, Bool, false, ◌&&◌, List, Option, Some, None}
use Rattle.std.specs.Option.{option_map_or}
use Rattle.std.specs.List.{list_any}
use Rattle.std.specs.Str.{bytes_eq}
use Rattle.fault_script.specs.Limits.{is_new}
use Rattle.fault_script.specs.Command.{Request, New, Append, Latest, At, Reconfigure, Command, Plain, Begin, StoreHide, StoreStale, StoreFork, RawAppend, RawLatest, RawShow}

abbrev pub label_of_request : Request → Option (List ℕ)
label_of_request (New client label payload) = Some label
label_of_request (Append client label height payload) = Some label
label_of_request (Latest client label) = Some label
label_of_request (At client label height) = Some label
label_of_request (Reconfigure ids) = None

-- the label that a line has
abbrev pub label_of : Command → Option (List ℕ)
label_of (Plain request) = label_of_request request
label_of (Begin op request) = label_of_request request
label_of (StoreHide label height) = Some label
label_of (StoreStale label height from) = Some label
label_of (StoreFork label height) = Some label
label_of (RawAppend id label height payload nonce) = Some label
label_of (RawLatest id label nonce) = Some label
label_of (RawShow id label) = Some label
label_of _ = None

abbrev pub has_label : List ℕ → Command → Bool
has_label label command = option_map_or (bytes_eq label) (label_of command) false

-- whether one of these lines has the label
abbrev pub is_used : List Command → List ℕ → Bool
is_used commands label = list_any (has_label label) commands

-- whether a line makes a label that is used
abbrev pub makes_used_label : (List ℕ → Bool) → Command → Bool
makes_used_label used command = is_new command && option_map_or used (label_of command) false
