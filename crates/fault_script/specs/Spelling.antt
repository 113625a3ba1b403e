-- How commands are written.
use Rattle.std.specs.Prelude.{ℕ, List, [], ◌∷◌, ◌++◌, take, codes}
use Rattle.std.specs.Fmt.{decimal}
use Rattle.std.specs.List.{flat_map}
use Rattle.fault_script.specs.Command.{Request, New, Append, Latest, At, Reconfigure, Command, Genesis, Plain, Restart, Begin, Step, Finish, Retry, LoseRequest, LoseReply, StoreFail, StoreHide, StoreStale, StoreFork, StoreHonest, RawAppend, RawLatest, RawShow, RawFinalize, Offer, Forge, End}

-- each word behind a space
abbrev pub spaced : List (List ℕ) → List ℕ
spaced words = flat_map (λ word. 32 ∷ word) words

-- numbers joined by commas
abbrev pub joined : List ℕ → List ℕ
joined [] = []
joined (id ∷ ids) = decimal id ++ flat_map (λ other. 44 ∷ decimal other) ids

-- the word of a request, and the words behind it
abbrev pub act_word : Request → List ℕ
act_word (New client label payload) = codes "new"
act_word (Append client label height payload) = codes "append"
act_word (Latest client label) = codes "latest"
act_word (At client label height) = codes "at"
act_word (Reconfigure ids) = codes "reconfigure"

abbrev pub act_values : Request → List (List ℕ)
act_values (New client label payload) = client ∷ label ∷ (61 ∷ payload) ∷ []
act_values (Append client label height payload) = client ∷ label ∷ decimal height ∷ (61 ∷ payload) ∷ []
act_values (Latest client label) = client ∷ label ∷ []
act_values (At client label height) = client ∷ label ∷ decimal height ∷ []
act_values (Reconfigure ids) = joined ids ∷ []

-- what a line begins with
abbrev pub opening : Command → List ℕ
opening (Genesis ids) = codes "genesis"
opening (Plain request) = act_word request
opening Restart = codes "restart"
opening (Begin op request) = codes "begin"
opening (Step op n) = codes "step"
opening (Finish op) = codes "finish"
opening (Retry op) = codes "retry"
opening (LoseRequest id n) = codes "lose request"
opening (LoseReply id n) = codes "lose reply"
opening (StoreFail n) = codes "store fail"
opening (StoreHide label height) = codes "store hide"
opening (StoreStale label height from) = codes "store stale"
opening (StoreFork label height) = codes "store fork"
opening StoreHonest = codes "store honest"
opening (RawAppend id label height payload nonce) = codes "raw append"
opening (RawLatest id label nonce) = codes "raw latest"
opening (RawShow id label) = codes "raw show"
opening (RawFinalize id ids) = codes "raw finalize"
opening (Offer op ids) = codes "offer"
opening (Forge op count ids) = codes "forge"
opening End = codes "end"

-- the words behind it, of a line to an endorser
abbrev pub raw_values : Command → List (List ℕ)
raw_values (RawAppend id label height payload nonce) = decimal id ∷ label ∷ decimal height ∷ (61 ∷ payload) ∷ decimal nonce ∷ []
raw_values (RawLatest id label nonce) = decimal id ∷ label ∷ decimal nonce ∷ []
raw_values (RawShow id label) = decimal id ∷ label ∷ []
raw_values (RawFinalize id ids) = decimal id ∷ joined ids ∷ []
raw_values _ = []

-- the same of a line about losses or the store too
abbrev pub fault_values : Command → List (List ℕ)
fault_values (LoseRequest id n) = decimal id ∷ decimal n ∷ []
fault_values (LoseReply id n) = decimal id ∷ decimal n ∷ []
fault_values (StoreFail n) = decimal n ∷ []
fault_values (StoreHide label height) = label ∷ decimal height ∷ []
fault_values (StoreStale label height from) = label ∷ decimal height ∷ decimal from ∷ []
fault_values (StoreFork label height) = label ∷ decimal height ∷ []
fault_values command = raw_values command

-- the same of any line
abbrev pub values : Command → List (List ℕ)
values (Genesis ids) = joined ids ∷ []
values (Plain request) = act_values request
values (Begin op request) = op ∷ act_word request ∷ act_values request
values (Step op n) = op ∷ decimal n ∷ []
values (Finish op) = op ∷ []
values (Retry op) = op ∷ []
values (Offer op ids) = op ∷ joined ids ∷ []
values (Forge op count ids) = op ∷ decimal count ∷ joined ids ∷ []
values command = fault_values command

abbrev pub line_text : Command → List ℕ
line_text command = opening command ++ spaced (values command)

-- each line with its line feed
abbrev pub whole_text : List Command → List ℕ
whole_text commands = flat_map (λ command. line_text command ++ 10 ∷ []) commands

-- the same, without the last line feed where it would be a byte more than a script may have
unfoldable pub text_of : List Command → List ℕ
text_of commands = take 1048576 (whole_text commands)
