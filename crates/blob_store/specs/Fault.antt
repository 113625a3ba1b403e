-- What counts as a fault of a store in memory.
use Rattle.std.specs.Prelude.{◌≡◌, ◌⊎◌, ℕ, ◌+◌, true, false, Some, None, IsSome}
use Rattle.port.specs.declared.store_answers.Put.TheVariants as puts
use Rattle.port.specs.declared.store_answers.Got.TheVariants as gots
use Rattle.port.specs.Contents.{Contents}
use Rattle.port.specs.Store.{StoreCall, PutNew, Get, StoreAnswer, WasPut, WasGot, StoreView, is_failed, is_no_memory}

-- the answer isn't that of an honest store with these contents, or the call failed
abbrev pub IsFault : Contents → StoreCall → StoreAnswer → Type 0
IsFault contents (PutNew key body) (WasPut puts.Done) = IsSome (contents key)
IsFault contents (Get key) (WasGot (gots.Some stored)) = contents key ≡ Some stored → ⊥
IsFault contents (Get key) (WasGot gots.None) = contents key ≡ None → ⊥
IsFault contents call answer = is_failed answer ≡ true

-- the count rises at a fault alone, by one
abbrev pub Counts : Contents → StoreCall → StoreAnswer → ℕ → ℕ → Type 0
Counts contents call answer before after = (after ≡ before) ⊎ ((after ≡ before + 1) × IsFault contents call answer)

-- What is known of a store stays, but for its lies and the failures to come.
pub record Stays {S : Type 0} (view : S → StoreView) (old new : S) : Type 0 where
  pub faults : (view new).faults ≡ (view old).faults
  pub calls : (view new).calls ≡ (view old).calls
  pub told : (view new).told ≡ (view old).told
  pub keeps : (n : ℕ) (c : StoreCall) (a : StoreAnswer) → (view old).was n c a → (view new).was n c a
  pub no_more : (n : ℕ) (c : StoreCall) (a : StoreAnswer) → (view new).was n c a → (view old).was n c a

-- No call came to stand but this one, under its number; of one that found no memory nothing is known.
abbrev pub AddsOnly : {S : Type 0} → (S → StoreView) → S → S → StoreCall → StoreAnswer → Type 0
AddsOnly view old new call answer =
    (n : ℕ) (c : StoreCall) (a : StoreAnswer) → is_no_memory a ≡ false → (view new).was n c a
    → (view old).was n c a ⊎ ((n ≡ (view old).calls) × (c ≡ call) × (a ≡ answer))
