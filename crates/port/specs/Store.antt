-- What is known of a store, and what one call of it does.
use Rattle.std.specs.Prelude.{◌≡◌, ◌⊎◌, ℕ, ◌+◌, ◌≤◌, ◌<◌, Bool, true, false, List, Option, Some, None, IsSome}
use Rattle.port.specs.declared.key.Key.{Key}
use Rattle.port.specs.declared.store_answers.Put.{Put}
use Rattle.port.specs.declared.store_answers.Put.TheVariants as puts
use Rattle.port.specs.declared.store_answers.Got.{Got}
use Rattle.port.specs.declared.store_answers.Got.TheVariants as gots
use Rattle.port.specs.declared.store_answers.Attached.{Attached}
use Rattle.port.specs.declared.store_answers.Attached.TheVariants as attaches
use Rattle.port.specs.Count.{next}
use Rattle.port.specs.Stored.{Stored}
use Rattle.port.specs.Contents.{Contents, put, fresh, with_attached}

-- a key and a body; a key; a key and bytes
pub data StoreCall : Type 0 where
  PutNew : Key → List ℕ → StoreCall
  Get : Key → StoreCall
  Attach : Key → List ℕ → StoreCall

pub data StoreAnswer : Type 0 where
  WasPut : Put → StoreAnswer
  WasGot : Got → StoreAnswer
  WasAttached : Attached → StoreAnswer

abbrev pub is_failed : StoreAnswer → Bool
is_failed (WasPut puts.Failed) = true
is_failed (WasGot gots.Failed) = true
is_failed (WasAttached attaches.Failed) = true
is_failed answer = false

abbrev pub is_no_memory : StoreAnswer → Bool
is_no_memory (WasPut puts.NoMemory) = true
is_no_memory (WasGot gots.NoMemory) = true
is_no_memory (WasAttached attaches.NoMemory) = true
is_no_memory answer = false

-- how many failures an answer is
abbrev pub failures : StoreAnswer → ℕ
failures (WasPut puts.Failed) = 1
failures (WasGot gots.Failed) = 1
failures (WasAttached attaches.Failed) = 1
failures answer = 0

-- What really stands in a store, and how it departs from that: a get of a key is given what stands at its source, and
-- nothing where it has none; a put where something stands replaces it where the key forks; and so many calls are still
-- to fail.
pub record Truth : Type 0 where
  pub contents : Contents
  pub source : Key → Option Key
  pub forks : Key → Bool
  pub due : ℕ

-- What is known of a store.
pub record StoreView : Type 1 where
  pub faults : ℕ
  pub calls : ℕ
  -- call number n was this and answered that
  pub was : ℕ → StoreCall → StoreAnswer → Type 0
  -- its contents, where it tells them
  pub told : Option Contents
  -- what really stands, also while it lies, where it tells that
  pub truth : Option Truth

-- what a store with these contents answers that doesn't lie or fail, and its contents afterwards
abbrev pub IsHonest : Contents → StoreCall → StoreAnswer → Contents → Type 0
IsHonest contents (PutNew key body) (WasPut puts.Done) after = (contents key ≡ None) × (after ≡ put contents key (fresh body))
IsHonest contents (PutNew key body) (WasPut puts.Taken) after = IsSome (contents key) × (after ≡ contents)
IsHonest contents (PutNew key body) (WasPut puts.NoMemory) after = after ≡ contents
IsHonest contents (Get key) (WasGot (gots.Some stored)) after = (contents key ≡ Some stored) × (after ≡ contents)
IsHonest contents (Get key) (WasGot gots.None) after = (contents key ≡ None) × (after ≡ contents)
IsHonest contents (Get key) (WasGot gots.NoMemory) after = after ≡ contents
IsHonest contents (Attach key bytes) (WasAttached attaches.Done) after =
    (stored : Stored) × (contents key ≡ Some stored) × (after ≡ put contents key (with_attached stored bytes))
IsHonest contents (Attach key bytes) (WasAttached attaches.Absent) after = (contents key ≡ None) × (after ≡ contents)
IsHonest contents (Attach key bytes) (WasAttached attaches.NoMemory) after = after ≡ contents
IsHonest contents call answer after = ⊥

-- what stands at a source
abbrev pub at : Contents → Option Key → Option Stored
at contents None = None
at contents (Some key) = contents key

-- what a store answers in which this stands, and which contents stand afterwards
abbrev pub Answers : Truth → StoreCall → StoreAnswer → Contents → Type 0
Answers truth (PutNew key body) (WasPut puts.Done) after =
    ((truth.contents key ≡ None) ⊎ (truth.forks key ≡ true)) × (after ≡ put truth.contents key (fresh body))
Answers truth (PutNew key body) (WasPut puts.Taken) after = IsSome (truth.contents key) × (truth.forks key ≡ false) × (after ≡ truth.contents)
Answers truth (PutNew key body) (WasPut puts.Failed) after = after ≡ truth.contents
Answers truth (PutNew key body) (WasPut puts.NoMemory) after = after ≡ truth.contents
Answers truth (Get key) (WasGot (gots.Some stored)) after = (at truth.contents (truth.source key) ≡ Some stored) × (after ≡ truth.contents)
Answers truth (Get key) (WasGot gots.None) after = (at truth.contents (truth.source key) ≡ None) × (after ≡ truth.contents)
Answers truth (Get key) (WasGot gots.Failed) after = after ≡ truth.contents
Answers truth (Get key) (WasGot gots.NoMemory) after = after ≡ truth.contents
Answers truth (Attach key bytes) (WasAttached attaches.Done) after =
    (stored : Stored) × (truth.contents key ≡ Some stored) × (after ≡ put truth.contents key (with_attached stored bytes))
Answers truth (Attach key bytes) (WasAttached attaches.Absent) after = (truth.contents key ≡ None) × (after ≡ truth.contents)
Answers truth (Attach key bytes) (WasAttached attaches.Failed) after = after ≡ truth.contents
Answers truth (Attach key bytes) (WasAttached attaches.NoMemory) after = after ≡ truth.contents
Answers truth call answer after = ⊥

-- What a call makes of what really stands.
pub record Follows (truth : Truth) (call : StoreCall) (answer : StoreAnswer) (after : Truth) : Type 0 where
  pub contents : Answers truth call answer after.contents
  -- failures come first, and each is one that was due
  pub due : truth.due ≡ after.due + failures answer
  pub in_turn : is_failed answer ≡ false → is_no_memory answer ≡ false → truth.due ≡ 0
  pub same_source : after.source ≡ truth.source
  pub same_forks : after.forks ≡ truth.forks

-- One call of a store: what was asked and what it answered, and how what is known of it changes.
pub record StoreStep {S : Type 0} (view : S → StoreView) (old new : S) (call : StoreCall) (answer : StoreAnswer) : Type 0 where
  -- a call fails only where the count of faults rose, which never falls
  pub later : (view old).faults ≤ (view new).faults
  pub failed : is_failed answer ≡ true → (view old).faults < (view new).faults
  -- the call stands under its number, and whatever stood still does
  pub counted : (view new).calls ≡ next (view old).calls
  pub made : (view new).was (view old).calls call answer
  pub keeps : (n : ℕ) (c : StoreCall) (a : StoreAnswer) → (view old).was n c a → (view new).was n c a
  -- where it tells its contents and no fault was counted, it didn't lie, and tells them still
  pub honest : (contents : Contents) → (view old).told ≡ Some contents → (view new).faults ≡ (view old).faults
      → (after : Contents) × ((view new).told ≡ Some after) × IsHonest contents call answer after
  -- where it tells what really stands, it answers by that, and tells it still
  pub follows : (truth : Truth) → (view old).truth ≡ Some truth → (after : Truth) × ((view new).truth ≡ Some after) × Follows truth call answer after
