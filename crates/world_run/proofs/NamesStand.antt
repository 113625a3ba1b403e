-- What stands of an operation by the lines of a script, with what it was begun for.
use Rattle.std.proofs.Common.{◌≡◌, ℕ, Bool, true, false, if◌then◌else◌, List, [], ◌∷◌, ◌++◌, refl, ap, ◌∙◌}
use Rattle.std.specs.Str.{bytes_eq}
use Rattle.std.proofs.lemmas.List.Sums.{fold_push}
use Rattle.fault_script.specs.Command.{Request, Command, Genesis, Plain, Restart, Begin, Step, Finish, Retry, LoseRequest, LoseReply, StoreFail, StoreHide, StoreStale, StoreFork, StoreHonest, RawAppend, RawLatest, RawShow, RawFinalize, Offer, Forge, End}
use Rattle.fault_script.specs.Operations.{closed as standing_closed, standing, standing_after}

pub data Stood : Type 0 where
  Unbegun : Stood
  Open : Request → Stood
  Closed : Request → Stood

abbrev pub closed : Stood → Stood
closed Unbegun = Unbegun
closed (Open request) = Closed request
closed (Closed request) = Closed request

-- the same after a line
abbrev pub stood_after : List ℕ → Stood → Command → Stood
stood_after name stood (Genesis ids) = stood
stood_after name stood (Plain request) = stood
stood_after name stood Restart = closed stood
stood_after name stood (Begin op request) = if bytes_eq name op then Open request else stood
stood_after name stood (Step op n) = stood
stood_after name stood (Finish op) = if bytes_eq name op then closed stood else stood
stood_after name stood (Retry op) = stood
stood_after name stood (LoseRequest id n) = stood
stood_after name stood (LoseReply id n) = stood
stood_after name stood (StoreFail n) = stood
stood_after name stood (StoreHide label height) = stood
stood_after name stood (StoreStale label height from) = stood
stood_after name stood (StoreFork label height) = stood
stood_after name stood StoreHonest = stood
stood_after name stood (RawAppend id label height payload number) = stood
stood_after name stood (RawLatest id label number) = stood
stood_after name stood (RawShow id label) = stood
stood_after name stood (RawFinalize id ids) = stood
stood_after name stood (Offer op ids) = if bytes_eq name op then closed stood else stood
stood_after name stood (Forge op count ids) = if bytes_eq name op then closed stood else stood
stood_after name stood End = stood

-- some lines after which it stands so, of an operation whose name is empty
abbrev pub lines_to : Stood → List Command
lines_to Unbegun = []
lines_to (Open request) = Begin [] request ∷ []
lines_to (Closed request) = Begin [] request ∷ Restart ∷ []

-- it stands so after these lines
abbrev pub StandsAs : List Command → List ℕ → Stood → Type 0
StandsAs earlier name stood = standing earlier name ≡ standing (lines_to stood) []

begun_as : (own : Bool) (request : Request) (stood : Stood)
    → (if own then standing (lines_to (Open request)) [] else standing (lines_to stood) []) ≡ standing (lines_to (if own then Open request else stood)) []
begun_as true request stood = refl
begun_as false request stood = refl

closed_all : (stood : Stood) → standing_closed (standing (lines_to stood) []) ≡ standing (lines_to (closed stood)) []
closed_all Unbegun = refl
closed_all (Open request) = refl
closed_all (Closed request) = refl

closed_as : (own : Bool) (stood : Stood)
    → (if own then standing_closed (standing (lines_to stood) []) else standing (lines_to stood) []) ≡ standing (lines_to (if own then closed stood else stood)) []
closed_as true stood = closed_all stood
closed_as false stood = refl

line_as : (name : List ℕ) (stood : Stood) (command : Command) → standing_after name (standing (lines_to stood) []) command ≡ standing (lines_to (stood_after name stood command)) []
line_as name stood (Genesis ids) = refl
line_as name stood (Plain request) = refl
line_as name stood Restart = closed_all stood
line_as name stood (Begin op request) = begun_as (bytes_eq name op) request stood
line_as name stood (Step op n) = refl
line_as name stood (Finish op) = closed_as (bytes_eq name op) stood
line_as name stood (Retry op) = refl
line_as name stood (LoseRequest id n) = refl
line_as name stood (LoseReply id n) = refl
line_as name stood (StoreFail n) = refl
line_as name stood (StoreHide label height) = refl
line_as name stood (StoreStale label height from) = refl
line_as name stood (StoreFork label height) = refl
line_as name stood StoreHonest = refl
line_as name stood (RawAppend id label height payload number) = refl
line_as name stood (RawLatest id label number) = refl
line_as name stood (RawShow id label) = refl
line_as name stood (RawFinalize id ids) = refl
line_as name stood (Offer op ids) = closed_as (bytes_eq name op) stood
line_as name stood (Forge op count ids) = closed_as (bytes_eq name op) stood
line_as name stood End = refl

pub stands_after : (earlier : List Command) (name : List ℕ) (stood : Stood) (command : Command) → StandsAs earlier name stood → StandsAs (earlier ++ command ∷ []) name (stood_after name stood command)
stands_after earlier name stood command stands =
    fold_push (standing_after name) (standing [] []) earlier command
    ∙ ap (λ before. standing_after name before command) stands
    ∙ line_as name stood command
