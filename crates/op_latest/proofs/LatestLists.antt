-- Lists of calls and of votes.
use Rattle.std.proofs.Common.{◌≡◌, ◌⊎◌, inl, inr, ℕ, zero, suc, ◌<◌, nat_lt, List, [], ◌∷◌, ◌++◌, length, slice_get, Option, Some, refl, sym, subst, ap, arith}
use Rattle.std.specs.Prelude.{set, IsTrue}
use Rattle.std.specs.List.{AllByRecursion}
use Rattle.statement.specs.Ids.{RisesFrom}
use Rattle.port.specs.Trace.{Event, Had}

-- these calls are among those
abbrev pub Within : List Event → List Event → Type 0
Within some all = (event : Event) → Had some event → Had all event

pub later : (a b : List Event) → Within b (a ++ b)
later [] b event had = had
later (first ∷ a) b event had = inr (later a b event had)

pub newer : (a b : List Event) → Within a (a ++ b)
newer [] b event had = absurd had
newer (first ∷ a) b event (inl is) = inl is
newer (first ∷ a) b event (inr had) = inr (newer a b event had)

pub split : (a b : List Event) (event : Event) → Had (a ++ b) event → Had a event ⊎ Had b event
split [] b event had = inr had
split (first ∷ a) b event (inl is) = inl (inl is)
split (first ∷ a) b event (inr had) = sorted (split a b event had)
  where
    sorted : Had a event ⊎ Had b event → Had (first ∷ a) event ⊎ Had b event
    sorted (inl h) = inl (inr h)
    sorted (inr h) = inr h

pub all_more : {X : Type 0} (P Q : X → Type 0) → ((x : X) → P x → Q x) → (xs : List X) → AllByRecursion P xs → AllByRecursion Q xs
all_more P Q more [] all = tt
all_more P Q more (x ∷ xs) all = (more x all.0, all_more P Q more xs all.1)

pub all_and : {X : Type 0} (P : X → Type 0) (xs : List X) (x : X) → AllByRecursion P xs → P x → AllByRecursion P (xs ++ x ∷ [])
all_and P [] x all is = (is, tt)
all_and P (first ∷ xs) x all is = (all.0, all_and P xs x all.1 is)

pub all_set : {X : Type 0} (P : X → Type 0) (xs : List X) (n : ℕ) (x : X) → AllByRecursion P xs → P x → AllByRecursion P (set xs n x)
all_set P [] n x all is = tt
all_set P (first ∷ xs) zero x all is = (is, all.1)
all_set P (first ∷ xs) (suc n) x all is = (all.0, all_set P xs n x all.1 is)

pub one_of : {X : Type 0} (P : X → Type 0) (xs : List X) (n : ℕ) (x : X) → AllByRecursion P xs → slice_get xs n ≡ Some x → P x
one_of P [] n x all is = absurd (cc is)
one_of P (first ∷ xs) zero x all is = let same : first ≡ x = cc is in subst P same all.0
one_of P (first ∷ xs) (suc n) x all is = one_of P xs n x all.1 is

-- within a list there is an element
pub some_at : {X : Type 0} (xs : List X) (n : ℕ) → n < length xs → (x : X) × (slice_get xs n ≡ Some x)
some_at [] n less = absurd (omega (arith, less))
some_at (first ∷ xs) zero less = (first, refl)
some_at (first ∷ xs) (suc n) less = some_at xs n (omega (arith, less))

-- what stands there already
pub set_same : {X : Type 0} (xs : List X) (n : ℕ) (x : X) → slice_get xs n ≡ Some x → set xs n x ≡ xs
set_same [] n x is = absurd (cc is)
set_same (first ∷ xs) zero x is = let same : first ≡ x = cc is in ap (λ y. y ∷ xs) (sym same)
set_same (first ∷ xs) (suc n) x is = ap (λ ys. first ∷ ys) (set_same xs n x is)

pub get_above : {X : Type 0} (xs : List X) (n k : ℕ) (x : X) → n < k → slice_get (set xs n x) k ≡ slice_get xs k
get_above [] n k x less = refl
get_above (first ∷ xs) n zero x less = absurd (omega (arith, less))
get_above (first ∷ xs) zero (suc k) x less = refl
get_above (first ∷ xs) (suc n) (suc k) x less = get_above xs n k x (omega (arith, less))

-- ids that rise are apart
above_before : (before : ℕ) (ids : List ℕ) (n id : ℕ) → RisesFrom (Some before) ids → slice_get ids n ≡ Some id → before < id
above_before before [] n id rises is = absurd (cc is)
above_before before (first ∷ ids) zero id rises is = let same : first ≡ id = cc is in subst (λ (i : ℕ). before < i) same (less before first rises.0)
  where
    less : (a b : ℕ) → IsTrue (nat_lt a b) → a < b
    less a b true_is = grind (arith, true_is)
above_before before (first ∷ ids) (suc n) id rises is = omega (arith, below before first rises.0, above_before first ids n id rises.1 is)
  where
    below : (a b : ℕ) → IsTrue (nat_lt a b) → a < b
    below a b true_is = grind (arith, true_is)

pub rising_apart : (before : Option ℕ) (ids : List ℕ) (m n a b : ℕ) → RisesFrom before ids → m < n → slice_get ids m ≡ Some a → slice_get ids n ≡ Some b → a < b
rising_apart before [] m n a b rises less is_a is_b = absurd (cc is_a)
rising_apart before (first ∷ ids) m zero a b rises less is_a is_b = absurd (omega (arith, less))
rising_apart before (first ∷ ids) zero (suc n) a b rises less is_a is_b = let same : first ≡ a = cc is_a in subst (λ (i : ℕ). i < b) same (above_before first ids n b rises.1 is_b)
rising_apart before (first ∷ ids) (suc m) (suc n) a b rises less is_a is_b = rising_apart (Some first) ids m n a b rises.1 (omega (arith, less)) is_a is_b
