-- What operations were begun for, in the list of them.
use Rattle.std.proofs.Common.{◌≡◌, ℕ, zero, suc, ◌<◌, List, [], ◌∷◌, ◌++◌, length, map, slice_get, slice_index_or, slice_set, Some, refl, sym, ap, subst, ◌∙◌, arith}
use Rattle.std.specs.List.{AllByRecursion}

pub one_of : {X : Type 0} (P : X → Type 0) (xs : List X) (n : ℕ) (x : X) → AllByRecursion P xs → slice_get xs n ≡ Some x → P x
one_of P [] n x all is = absurd (cc is)
one_of P (first ∷ xs) zero x all is = let same : first ≡ x = cc is in subst P same all.0
one_of P (first ∷ xs) (suc n) x all is = one_of P xs n x all.1 is

pub all_more : {X : Type 0} (P Q : X → Type 0) → ((x : X) → P x → Q x) → (xs : List X) → AllByRecursion P xs → AllByRecursion Q xs
all_more P Q more [] all = tt
all_more P Q more (x ∷ xs) all = (more x all.0, all_more P Q more xs all.1)

pub all_push : {X : Type 0} (P : X → Type 0) (xs : List X) (x : X) → AllByRecursion P xs → P x → AllByRecursion P (xs ++ x ∷ [])
all_push P [] x all one = (one, tt)
all_push P (first ∷ xs) x all one = (all.0, all_push P xs x all.1 one)

pub get_more : {X : Type 0} (xs : List X) (more x : X) (n : ℕ) → slice_get xs n ≡ Some x → slice_get (xs ++ more ∷ []) n ≡ Some x
get_more [] more x n is = absurd (cc is)
get_more (first ∷ xs) more x zero is = is
get_more (first ∷ xs) more x (suc n) is = get_more xs more x n is

pub set_same : {X : Type 0} (xs : List X) (n : ℕ) (x : X) → slice_get xs n ≡ Some x → slice_set xs n x ≡ xs
set_same [] n x is = refl
set_same {X} (first ∷ xs) zero x is = let same : x ≡ first = cc is in ap (λ (y : X). y ∷ xs) same
set_same {X} (first ∷ xs) (suc n) x is = ap (λ (rest : List X). first ∷ rest) (set_same xs n x is)

stands : {X : Type 0} (xs : List X) (n : ℕ) (x : X) → n < length xs → x ≡ slice_index_or xs n x → slice_get xs n ≡ Some x
stands [] n x below is = absurd omega (arith, below)
stands (first ∷ xs) zero x below is = ap Some (sym is)
stands (first ∷ xs) (suc n) x below is = stands xs n x (omega (arith, below)) is

module _ {X Y : Type 0} (f : X → Y) where
  -- what is seen of an element
  pub get_seen : (xs : List X) (n : ℕ) (x : X) → slice_get xs n ≡ Some x → slice_get (map f xs) n ≡ Some (f x)
  get_seen [] n x is = absurd (cc is)
  get_seen (first ∷ xs) zero x is = let same : first ≡ x = cc is in ap (λ (y : X). Some (f y)) same
  get_seen (first ∷ xs) (suc n) x is = get_seen xs n x is

  pub map_set : (xs : List X) (n : ℕ) (new : X) → map f (slice_set xs n new) ≡ slice_set (map f xs) n (f new)
  map_set [] n new = refl
  map_set (first ∷ xs) zero new = refl
  map_set (first ∷ xs) (suc n) new = ap (λ (rest : List Y). f first ∷ rest) (map_set xs n new)

  -- an element that looks as it did, in its place
  pub seen_same : (xs : List X) (n : ℕ) (old new : X) → slice_get xs n ≡ Some old → f new ≡ f old → map f (slice_set xs n new) ≡ map f xs
  seen_same xs n old new is same = map_set xs n new ∙ ap (slice_set (map f xs) n) same ∙ set_same (map f xs) n (f old) (get_seen xs n old is)

  length_seen : (xs : List X) → length (map f xs) ≡ length xs
  length_seen [] = refl
  length_seen (first ∷ xs) = ap suc (length_seen xs)

  -- an element of a list that is seen as this, where it was read
  pub stood : (xs : List X) (now : List Y) (n : ℕ) (old : X) → map f xs ≡ now → n < length now → old ≡ slice_index_or xs n old → slice_get now n ≡ Some (f old)
  stood xs now n old seen below read =
      let same : length now ≡ length xs = sym (ap length seen) ∙ length_seen xs in
      let is : slice_get xs n ≡ Some old = stands xs n old (subst (λ (m : ℕ). n < m) same below) read in
      subst (λ (ys : List Y). slice_get ys n ≡ Some (f old)) seen (get_seen xs n old is)
