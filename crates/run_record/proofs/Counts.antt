-- Counts of events, and lists that grow by one line.
use Rattle.std.proofs.Common.{◌≡◌, ℕ, zero, suc, ◌+◌, ◌<◌, ◌≤◌, Bool, true, cond, List, [], ◌∷◌, ◌++◌, length, get_or, set, take, refl, sym, ap, ◌∙◌, arith}
use lib.Dec.{eqb-zero-suc, eqb-suc-zero, eqb-suc-suc}
use Rattle.std.specs.List.{AllByRecursion, count_by}
use Rattle.std.proofs.lemmas.List.Sums.{sum_by-append, sum_by-cons}
use Rattle.run_record.specs.declared.actor.Actor.{Actor}
use Rattle.run_record.specs.declared.actor.Actor.TheVariants.{Endorser, Client}
use Rattle.run_record.specs.Events.{is_endorser, is_client, AreCounted, length_at, one_at}

abbrev pub bit : Bool → ℕ
bit b = cond b 1 0

pub count_push : {A : Type 0} (p : A → Bool) (xs : List A) (x : A) → count_by p (xs ++ x ∷ []) ≡ count_by p xs + bit (p x)
count_push p xs x = let e : count_by p (xs ++ x ∷ []) ≡ count_by p xs + (0 + bit (p x)) = sum_by-append (λ y. cond (p y) 1 0) xs (x ∷ []) in omega arith

pub count_cons : {A : Type 0} (p : A → Bool) (x : A) (xs : List A) → count_by p (x ∷ xs) ≡ bit (p x) + count_by p xs
count_cons p x xs = sum_by-cons (λ y. cond (p y) 1 0) x xs

-- an element that passes is not among those before it
pub count_at : {A : Type 0} (p : A → Bool) (xs : List A) (i : ℕ) (x : A) → i < length xs → x ≡ get_or xs i x → p x ≡ true → count_by p (take i xs) < count_by p xs
count_at p [] i x inside is passes = absurd (omega arith)
count_at p (y ∷ xs) zero x inside is passes =
    let one : bit (p y) ≡ 1 = ap bit (ap p (sym is) ∙ passes) in
    let none : count_by p (take zero (y ∷ xs)) ≡ 0 = refl in omega (arith, count_cons p y xs)
count_at p (y ∷ xs) (suc i) x inside is passes = omega (arith, count_cons p y xs, count_cons p y (take i xs), count_at p xs i x (omega arith) is passes)

pub endorser_counts : (order : List Actor) (acting place : ℕ) → count_by (is_endorser place) (order ++ Endorser acting ∷ []) ≡ count_by (is_endorser place) order + one_at acting place
endorser_counts order acting place = count_push (is_endorser place) order (Endorser acting)

pub endorser_leaves : (order : List Actor) (acting place : ℕ) → count_by (is_client place) (order ++ Endorser acting ∷ []) ≡ count_by (is_client place) order
endorser_leaves order acting place = let e : count_by (is_client place) (order ++ Endorser acting ∷ []) ≡ count_by (is_client place) order + 0 = count_push (is_client place) order (Endorser acting) in omega arith

pub client_counts : (order : List Actor) (acting place : ℕ) → count_by (is_client place) (order ++ Client acting ∷ []) ≡ count_by (is_client place) order + one_at acting place
client_counts order acting place = count_push (is_client place) order (Client acting)

pub client_leaves : (order : List Actor) (acting place : ℕ) → count_by (is_endorser place) (order ++ Client acting ∷ []) ≡ count_by (is_endorser place) order
client_leaves order acting place = let e : count_by (is_endorser place) (order ++ Client acting ∷ []) ≡ count_by (is_endorser place) order + 0 = count_push (is_endorser place) order (Client acting) in omega arith

pub endorser_grows : (order : List Actor) (calls acts more : ℕ → ℕ) (acting : ℕ)
    → AreCounted order calls acts → ((place : ℕ) → more place ≡ calls place + one_at acting place) → AreCounted (order ++ Endorser acting ∷ []) more acts
endorser_grows order calls acts more acting k grows = record {
  endorsers = λ place. endorser_counts order acting place ∙ (ap (λ (n : ℕ). n + one_at acting place) (k.endorsers place) ∙ sym (grows place));
  clients = λ place. endorser_leaves order acting place ∙ k.clients place;
}

pub client_grows : (order : List Actor) (calls acts more : ℕ → ℕ) (acting : ℕ)
    → AreCounted order calls acts → ((place : ℕ) → more place ≡ acts place + one_at acting place) → AreCounted (order ++ Client acting ∷ []) calls more
client_grows order calls acts more acting k grows = record {
  endorsers = λ place. client_leaves order acting place ∙ k.endorsers place;
  clients = λ place. client_counts order acting place ∙ (ap (λ (n : ℕ). n + one_at acting place) (k.clients place) ∙ sym (grows place));
}

pub grows_at : {A : Type 0} (lists : List (List A)) (acting : ℕ) (lines : List A) → acting < length lists → length lines ≡ length_at lists acting + 1 → (place : ℕ)
    → length_at (set lists acting lines) place ≡ length_at lists place + one_at acting place
grows_at [] acting lines inside e place = absurd (omega arith)
grows_at (x ∷ xs) zero lines inside e zero = e
grows_at (x ∷ xs) zero lines inside e (suc place) = let none : one_at zero (suc place) ≡ 0 = ap bit (eqb-zero-suc place) in omega arith
grows_at (x ∷ xs) (suc acting) lines inside e zero = let none : one_at (suc acting) zero ≡ 0 = ap bit (eqb-suc-zero acting) in omega arith
grows_at (x ∷ xs) (suc acting) lines inside e (suc place) =
    let same : one_at (suc acting) (suc place) ≡ one_at acting place = ap bit (eqb-suc-suc acting place) in
    omega (arith, grows_at xs acting lines (omega arith) e place)

pub new_at : {A : Type 0} (lists : List (List A)) (place : ℕ) → length_at (lists ++ [] ∷ []) place ≡ length_at lists place
new_at [] zero = refl
new_at [] (suc place) = refl
new_at (x ∷ xs) zero = refl
new_at (x ∷ xs) (suc place) = new_at xs place

-- where lines stand, a list does
pub in_range : {A : Type 0} (lists : List (List A)) (place : ℕ) → 0 < length_at lists place → place < length lists
in_range [] place h = absurd (omega arith)
in_range (x ∷ xs) zero h = omega arith
in_range (x ∷ xs) (suc place) h = let below : place < length xs = in_range xs place h in omega arith

pub beyond : {A : Type 0} (lists : List (List A)) (place : ℕ) → length lists ≤ place → length_at lists place ≡ 0
beyond [] place h = refl
beyond (x ∷ xs) zero h = absurd (omega arith)
beyond (x ∷ xs) (suc place) h = beyond xs place (omega arith)

pub empty_at : {A : Type 0} (lists : List (List A)) → AllByRecursion (λ (lines : List A). lines ≡ []) lists → (place : ℕ) → length_at lists place ≡ 0
empty_at [] empty place = refl
empty_at (lines ∷ lists) empty zero = ap length empty.0
empty_at (lines ∷ lists) empty (suc place) = empty_at lists empty.1 place
