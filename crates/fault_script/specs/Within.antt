-- What holds of each command of a script after those before it.
use Rattle.std.specs.Prelude.{◌≡◌, ◌==◌, ℕ, ◌<◌, ◌≤◌, Bool, true, false, List, [], ◌∷◌, ◌++◌, length, None}
use Rattle.fault_script.specs.Labels.{is_used, makes_used_label}
use Rattle.fault_script.specs.Limits.{counts_of, is_served, is_too_many}
use Rattle.fault_script.specs.Line.{fault_after, has_ended}
use Rattle.fault_script.specs.Operations.{misuses, standing}
use Rattle.fault_script.specs.Command.{Request, New, Append, Latest, At, Reconfigure, Command, Genesis, Plain, Restart, Begin, Step, Finish, Retry, LoseRequest, LoseReply, StoreFail, StoreHide, StoreStale, StoreFork, StoreHonest, RawAppend, RawLatest, RawShow, RawFinalize, Offer, Forge, End}

-- each number is above the one before and at most 64
abbrev pub AreRising : ℕ → List ℕ → Type 0
AreRising low [] = Unit {0}
AreRising low (id ∷ ids) = (low < id) × (id ≤ 64) × AreRising id ids

-- 1 to 15 ids from 1 to 64, strictly rising
abbrev pub AreIds : List ℕ → Type 0
AreIds ids = (1 ≤ length ids) × (length ids ≤ 15) × AreRising 0 ids

abbrev pub IsFrom : ℕ → ℕ → ℕ → Type 0
IsFrom low high n = (low ≤ n) × (n ≤ high)

abbrev pub IsRequestWithin : Request → Type 0
IsRequestWithin (New client label payload) = length payload ≤ 65536
IsRequestWithin (Append client label height payload) = IsFrom 1 4294967295 height × (length payload ≤ 65536)
IsRequestWithin (Latest client label) = Unit {0}
IsRequestWithin (At client label height) = height ≤ 4294967295
IsRequestWithin (Reconfigure ids) = AreIds ids

abbrev pub IsWithin : Command → Type 0
IsWithin (Genesis ids) = AreIds ids
IsWithin (Plain request) = IsRequestWithin request
IsWithin Restart = Unit {0}
IsWithin (Begin op request) = IsRequestWithin request
IsWithin (Step op n) = IsFrom 1 1000 n
IsWithin (Finish op) = Unit {0}
IsWithin (Retry op) = Unit {0}
IsWithin (LoseRequest id n) = IsFrom 1 64 id × IsFrom 1 1000 n
IsWithin (LoseReply id n) = IsFrom 1 64 id × IsFrom 1 1000 n
IsWithin (StoreFail n) = IsFrom 1 1000 n
IsWithin (StoreHide label height) = height ≤ 4294967295
IsWithin (StoreStale label height from) = (height ≤ 4294967295) × (from ≤ 4294967295)
IsWithin (StoreFork label height) = height ≤ 4294967295
IsWithin StoreHonest = Unit {0}
IsWithin (RawAppend id label height payload nonce) = IsFrom 1 64 id × IsFrom 1 4294967295 height × (length payload ≤ 65536) × (nonce ≤ 4294967295)
IsWithin (RawLatest id label nonce) = IsFrom 1 64 id × (nonce ≤ 4294967295)
IsWithin (RawShow id label) = IsFrom 1 64 id
IsWithin (RawFinalize id ids) = IsFrom 1 64 id × AreIds ids
IsWithin (Offer op ids) = AreIds ids
IsWithin (Forge op count ids) = (count ≤ 4294967296) × AreIds ids
IsWithin End = Unit {0}

abbrev pub is_genesis : Command → Bool
is_genesis (Genesis ids) = true
is_genesis _ = false

-- what holds of a command after these: its limits; lines may say it; it is `genesis` just where it is the first; no `end`
-- stands before it; it makes no label that is used; its operation stands as it wants; it isn't one too many of its kind;
-- so nothing is wrong with it
pub record Fits (earlier : List Command) (command : Command) : Type 0 where
  pub limits : IsWithin command
  pub served : is_served command ≡ true
  pub first : is_genesis command ≡ (length earlier == 0)
  pub going : has_ended earlier ≡ false
  pub apart : makes_used_label (is_used earlier) command ≡ false
  pub stands : misuses (standing earlier) command ≡ false
  pub few : is_too_many (counts_of earlier) command ≡ false
  pub good : fault_after earlier command ≡ None

-- each command fits after those before it
abbrev pub AllFit : List Command → List Command → Type 0
AllFit earlier [] = Unit {0}
AllFit earlier (command ∷ commands) = Fits earlier command × AllFit (earlier ++ command ∷ []) commands
