-- The places of all events of all actors are the places of the order, each once.
use Rattle.std.proofs.Common.{◌≡◌, ℕ, zero, suc, ◌+◌, ◌<◌, ◌≤◌, ◌⊎◌, inl, inr, Bool, true, false, cond, eqb, List, [], ◌∷◌, ◌++◌, length, get_or, refl, sym, ap, subst, ◌∙◌, arith, length-append}
use lib.Dec.{eqb-zero-suc, eqb-suc-zero, eqb-suc-suc}
use Rattle.std.specs.Prelude.{if◌then◌else◌}
use Rattle.std.specs.List.{count_by, flat_map, AllByRecursion}
use Rattle.std.specs.List.Sorted.{IsStrictlyIncreasing}
use Rattle.std.proofs.lemmas.Bool.{cases_lt, eq-eqb}
use Rattle.std.proofs.lemmas.Bool.Decides.{nat_tests}
use Rattle.std.proofs.lemmas.List.Concat.{flat_map-append}
use Rattle.stamp_clock.specs.Stamps.{times, below, EachOnce}
use Rattle.run_record.specs.declared.actor.Actor.{Actor}
use Rattle.run_record.specs.declared.actor.Actor.TheVariants.{Endorser, Client}
use Rattle.run_record.specs.Events.{is_endorser, is_client, places_from, places}
use Rattle.run_record.proofs.Counts.{bit, count_cons}
use Rattle.run_record.proofs.Places.{places_increase}

-- the sum of f over the places below a number
abbrev sum_to : (ℕ → ℕ) → ℕ → ℕ
sum_to f zero = 0
sum_to f (suc k) = f 0 + sum_to (λ (p : ℕ). f (suc p)) k

sum_same : (f g : ℕ → ℕ) (k : ℕ) → ((p : ℕ) → f p ≡ g p) → sum_to f k ≡ sum_to g k
sum_same f g zero same = refl
sum_same f g (suc k) same = omega (arith, same 0, sum_same (λ (p : ℕ). f (suc p)) (λ (p : ℕ). g (suc p)) k (λ p. same (suc p)))

sum_add : (f g : ℕ → ℕ) (k : ℕ) → sum_to (λ (p : ℕ). f p + g p) k ≡ sum_to f k + sum_to g k
sum_add f g zero = refl
sum_add f g (suc k) = omega (arith, sum_add (λ (p : ℕ). f (suc p)) (λ (p : ℕ). g (suc p)) k)

sum_none : (k : ℕ) → sum_to (λ (p : ℕ). 0) k ≡ 0
sum_none zero = refl
sum_none (suc k) = omega (arith, sum_none k)

abbrev worth : ℕ → Bool → ℕ
worth x b = cond b x 0

sum_one : (acting x k : ℕ) → acting < k → sum_to (λ (p : ℕ). worth x (eqb acting p)) k ≡ x
sum_one acting x zero inside = absurd (omega arith)
sum_one zero x (suc k) inside =
    let rest : sum_to (λ (p : ℕ). worth x (eqb zero (suc p))) k ≡ sum_to (λ (p : ℕ). 0) k = sum_same (λ (p : ℕ). worth x (eqb zero (suc p))) (λ (p : ℕ). 0) k (λ p. ap (worth x) (eqb-zero-suc p)) in
    let first : worth x (eqb zero zero) ≡ x = refl in
    omega (arith, rest, sum_none k, first)
sum_one (suc acting) x (suc k) inside =
    let rest : sum_to (λ (p : ℕ). worth x (eqb (suc acting) (suc p))) k ≡ sum_to (λ (p : ℕ). worth x (eqb acting p)) k
    = sum_same (λ (p : ℕ). worth x (eqb (suc acting) (suc p))) (λ (p : ℕ). worth x (eqb acting p)) k (λ p. ap (worth x) (eqb-suc-suc acting p)) in
    let first : worth x (eqb (suc acting) zero) ≡ 0 = ap (worth x) (eqb-suc-zero acting) in
    omega (arith, rest, first, sum_one acting x k (omega arith))

by_sum : {G A B : Type 0} → A ⊎ B → (A → G) → (B → G) → G
by_sum (inl a) f g = f a
by_sum (inr b) f g = g b

one_here : (acting : ℕ) → bit (eqb acting acting) ≡ 1
one_here acting = ap bit (eq-eqb acting acting refl)

-- no event names a place beyond the lists
abbrev pub NoneBeyond : (ℕ → Actor → Bool) → ℕ → List Actor → Type 0
NoneBeyond acts count order = (place : ℕ) → count ≤ place → count_by (acts place) order ≡ 0

none_later : (acts : ℕ → Actor → Bool) (count : ℕ) (a : Actor) (order : List Actor) → NoneBeyond acts count (a ∷ order) → NoneBeyond acts count order
none_later acts count a order none place le = omega (arith, none place le, count_cons (acts place) a order)

inside_of : (acts : ℕ → Actor → Bool) (count acting : ℕ) (a : Actor) (order : List Actor) → acts acting a ≡ eqb acting acting → NoneBeyond acts count (a ∷ order) → acting < count
inside_of acts count acting a order is none = by_sum (cases_lt acting count) (λ h. h) (λ le.
    let one : bit (acts acting a) ≡ 1 = ap bit is ∙ one_here acting in absurd (omega (arith, none acting le, count_cons (acts acting) a order)))

-- the numbers of the events themselves
abbrev pub numbers : ℕ → List Actor → List ℕ
numbers first [] = []
numbers first (a ∷ order) = first ∷ numbers (first + 1) order

-- a measure of lists that adds up
module _ (m : List ℕ → ℕ) (none : m [] ≡ 0) (join : (xs ys : List ℕ) → m (xs ++ ys) ≡ m xs + m ys) where
  m_if : (b : Bool) (n : ℕ) (xs : List ℕ) → m (if b then n ∷ xs else xs) ≡ worth (m (n ∷ [])) b + m xs
  m_if true n xs = join (n ∷ []) xs
  m_if false n xs = omega arith

  -- over all places, an event of one of them adds its number
  acts_here : (acts : ℕ → Actor → Bool) (count acting first : ℕ) (a : Actor) (order : List Actor) → ((p : ℕ) → acts p a ≡ eqb acting p) → acting < count
      → sum_to (λ (p : ℕ). m (places_from first (acts p) (a ∷ order))) count ≡ m (first ∷ []) + sum_to (λ (p : ℕ). m (places_from (first + 1) (acts p) order)) count
  acts_here acts count acting first a order tells inside =
      let w = m (first ∷ []) in
      let later : ℕ → ℕ = λ p. m (places_from (first + 1) (acts p) order) in
      let each : (p : ℕ) → m (places_from first (acts p) (a ∷ order)) ≡ worth w (eqb acting p) + later p
      = λ p. m_if (acts p a) first (places_from (first + 1) (acts p) order) ∙ ap (λ (b : Bool). worth w b + later p) (tells p) in
      sum_same (λ (p : ℕ). m (places_from first (acts p) (a ∷ order))) (λ (p : ℕ). worth w (eqb acting p) + later p) count each
      ∙ (sum_add (λ (p : ℕ). worth w (eqb acting p)) later count
      ∙ ap (λ (x : ℕ). x + sum_to later count) (sum_one acting w count inside))

  -- where none of them acts, nothing is added
  acts_elsewhere : (acts : ℕ → Actor → Bool) (count first : ℕ) (a : Actor) (order : List Actor) → ((p : ℕ) → acts p a ≡ false)
      → sum_to (λ (p : ℕ). m (places_from first (acts p) (a ∷ order))) count ≡ sum_to (λ (p : ℕ). m (places_from (first + 1) (acts p) order)) count
  acts_elsewhere acts count first a order tells =
      sum_same (λ (p : ℕ). m (places_from first (acts p) (a ∷ order))) (λ (p : ℕ). m (places_from (first + 1) (acts p) order)) count
      (λ p. ap (λ (b : Bool). m (if b then first ∷ places_from (first + 1) (acts p) order else places_from (first + 1) (acts p) order)) (tells p))

  sum_nothing : (k : ℕ) → sum_to (λ (p : ℕ). m []) k ≡ 0
  sum_nothing k = sum_same (λ (p : ℕ). m []) (λ (p : ℕ). 0) k (λ p. none) ∙ sum_none k

  all_places : (cells passes first : ℕ) (order : List Actor) → NoneBeyond is_endorser cells order → NoneBeyond is_client passes order
      → sum_to (λ (p : ℕ). m (places_from first (is_endorser p) order)) cells + sum_to (λ (p : ℕ). m (places_from first (is_client p) order)) passes ≡ m (numbers first order)
  all_places cells passes first [] no_cells no_passes = omega (arith, sum_nothing cells, sum_nothing passes, none)
  all_places cells passes first (Endorser acting ∷ order) no_cells no_passes =
      omega (
        arith,
        acts_here is_endorser cells acting first (Endorser acting) order (λ p. refl) (inside_of is_endorser cells acting (Endorser acting) order refl no_cells),
        acts_elsewhere is_client passes first (Endorser acting) order (λ p. refl),
        join (first ∷ []) (numbers (first + 1) order),
        all_places cells passes (first + 1) order (none_later is_endorser cells (Endorser acting) order no_cells) (none_later is_client passes (Endorser acting) order no_passes),
      )
  all_places cells passes first (Client acting ∷ order) no_cells no_passes =
      omega (
        arith,
        acts_here is_client passes acting first (Client acting) order (λ p. refl) (inside_of is_client passes acting (Client acting) order refl no_passes),
        acts_elsewhere is_endorser cells first (Client acting) order (λ p. refl),
        join (first ∷ []) (numbers (first + 1) order),
        all_places cells passes (first + 1) order (none_later is_endorser cells (Client acting) order no_cells) (none_later is_client passes (Client acting) order no_passes),
      )

  of_lists : (lists : List (List ℕ)) (f : ℕ → List ℕ) → ((p : ℕ) → get_or lists p [] ≡ f p) → m (flat_map (λ list. list) lists) ≡ sum_to (λ (p : ℕ). m (f p)) (length lists)
  of_lists [] f same = none
  of_lists (xs ∷ lists) f same =
      let first : m xs ≡ m (f 0) = ap m (same 0) in
      omega (arith, join xs (flat_map (λ list. list) lists), first, of_lists lists (λ (p : ℕ). f (suc p)) (λ p. same (suc p)))

  pub of_all : (order : List Actor) (cells passes : List (List ℕ)) → NoneBeyond is_endorser (length cells) order → NoneBeyond is_client (length passes) order
      → ((p : ℕ) → get_or cells p [] ≡ places (is_endorser p) order) → ((p : ℕ) → get_or passes p [] ≡ places (is_client p) order)
      → m (flat_map (λ list. list) (cells ++ passes)) ≡ m (numbers 0 order)
  of_all order cells passes no_cells no_passes at_cells at_passes =
      ap m (flat_map-append (λ list. list) cells passes)
      ∙ omega (
        arith,
        join (flat_map (λ list. list) cells) (flat_map (λ list. list) passes),
        of_lists cells (λ (p : ℕ). places (is_endorser p) order) at_cells,
        of_lists passes (λ (p : ℕ). places (is_client p) order) at_passes,
        all_places (length cells) (length passes) 0 order no_cells no_passes,
      )

times_append : (n : ℕ) (xs ys : List ℕ) → times n (xs ++ ys) ≡ times n xs + times n ys
times_append n [] ys = omega arith
times_append n (x ∷ xs) ys = omega (arith, times_append n xs ys)

below_more : (count n : ℕ) → below (count + 1) n ≡ below count n + bit (eqb count n)
below_more count n = grind (arith, nat_tests)

none_below : (n : ℕ) → below 0 n ≡ 0
none_below n = grind (arith, nat_tests)

numbers_once : (n first : ℕ) (order : List Actor) → times n (numbers first order) + below first n ≡ below (first + length order) n
numbers_once n first [] =
    let same : first ≡ first + 0 = omega arith in
    let e : below first n ≡ below (first + 0) n = ap (λ (k : ℕ). below k n) same in omega arith
numbers_once n first (a ∷ order) =
    let same : below (first + 1 + length order) n ≡ below (first + suc (length order)) n = ap (λ (k : ℕ). below k n) (omega arith) in
    omega (arith, below_more first n, numbers_once n (first + 1) order, same)

numbers_length : (first : ℕ) (order : List Actor) → length (numbers first order) ≡ length order
numbers_length first [] = refl
numbers_length first (a ∷ order) = omega (arith, numbers_length (first + 1) order)

-- lists of stamps that are the places of each actor's events
pub record AreAllPlaces (order : List Actor) (cells passes : List (List ℕ)) : Type 0 where
  pub no_cells : NoneBeyond is_endorser (length cells) order
  pub no_passes : NoneBeyond is_client (length passes) order
  pub at_cells : (p : ℕ) → get_or cells p [] ≡ places (is_endorser p) order
  pub at_passes : (p : ℕ) → get_or passes p [] ≡ places (is_client p) order

pub all_count : (order : List Actor) (cells passes : List (List ℕ)) → AreAllPlaces order cells passes → length (flat_map (λ list. list) (cells ++ passes)) ≡ length order
all_count order cells passes k = of_all length refl (λ xs ys. length-append xs ys) order cells passes k.no_cells k.no_passes k.at_cells k.at_passes ∙ numbers_length 0 order

pub all_once : (order : List Actor) (cells passes : List (List ℕ)) → AreAllPlaces order cells passes
    → EachOnce (flat_map (λ list. list) (cells ++ passes)) (length (flat_map (λ list. list) (cells ++ passes)))
all_once order cells passes k n =
    let count : below (length order) n ≡ below (length (flat_map (λ list. list) (cells ++ passes))) n = ap (λ (c : ℕ). below c n) (sym (all_count order cells passes k)) in
    let here : times n (flat_map (λ list. list) (cells ++ passes)) ≡ times n (numbers 0 order)
    = of_all (times n) refl (times_append n) order cells passes k.no_cells k.no_passes k.at_cells k.at_passes in
    let start : below (0 + length order) n ≡ below (length order) n = ap (λ (c : ℕ). below c n) (omega arith) in
    omega (arith, here, count, start, numbers_once n 0 order, none_below n)

rise_each : (lists : List (List ℕ)) (f : ℕ → List ℕ) → ((p : ℕ) → get_or lists p [] ≡ f p) → ((p : ℕ) → IsStrictlyIncreasing (f p)) → AllByRecursion IsStrictlyIncreasing lists
rise_each [] f same rises = tt
rise_each (xs ∷ lists) f same rises = (
  subst IsStrictlyIncreasing (sym (same 0)) (rises 0),
  rise_each lists (λ (p : ℕ). f (suc p)) (λ p. same (suc p)) (λ p. rises (suc p)),
)

all_append : {A : Type 0} (P : A → Type 0) (xs ys : List A) → AllByRecursion P xs → AllByRecursion P ys → AllByRecursion P (xs ++ ys)
all_append P [] ys all more = more
all_append P (x ∷ xs) ys all more = (all.0, all_append P xs ys all.1 more)

pub all_rise : (order : List Actor) (cells passes : List (List ℕ)) → AreAllPlaces order cells passes → AllByRecursion IsStrictlyIncreasing (cells ++ passes)
all_rise order cells passes k =
    all_append IsStrictlyIncreasing cells passes
    (rise_each cells (λ (p : ℕ). places (is_endorser p) order) k.at_cells (λ p. places_increase 0 (is_endorser p) order))
    (rise_each passes (λ (p : ℕ). places (is_client p) order) k.at_passes (λ p. places_increase 0 (is_client p) order))
