-- The value of a word of digits.
use Rattle.std.proofs.Common.{suc, ◌≡◌, sym, ap, ℕ, ◌+◌, ◌-◌, ◌*◌, ◌^◌, ◌<◌, ◌≤◌, List, [], ◌∷◌, length, get_or, fold, Bool, true, false, not, ◌||◌, cond, eqb, leb, Some, None, refl, ◌&&◌, arith, lit<, add-one}
use Rattle.std.specs.List.{list_all}
use Rattle.std.proofs.lemmas.Bool.{and_parts, leb-true, eq-eqb, eqb-true}
use Rattle.std.proofs.lemmas.List.Sums.{AllPass-from_list_all}
use Rattle.std.proofs.Math.Nat.{pow-suc, pow-le-pow_right, mul-le-mul_right}
use Rattle.fault_script.specs.Words.{is_number, is_digit, number_within, value}

pub digit_at : (word : List ℕ) → list_all is_digit word ≡ true → (i : ℕ) → i < length word → get_or word i 0 ≤ 57
digit_at word h i below = leb-true _ _ (and_parts _ _ (AllPass-from_list_all is_digit word h i 0 below)).1

pub value_more : (v d i : ℕ) → v < 10 ^ i → d ≤ 57 → v * 10 + (d - 48) < 10 ^ (i + 1)
value_more v d i small digit = rw (add-one, pow-suc) (omega arith)

pub value_fits : (v i : ℕ) → v < 10 ^ i → i < 10 → v < 10 ^ 9
value_fits v i small below = omega (arith, pow-le-pow_right {n = 10} (lit< tt) {i = i} {j = 9} (omega arith))

-- each digit more makes at least ten times as much
at_least : (n : ℕ) (digits : List ℕ) → n * 10 ^ length digits ≤ fold (λ n digit. n * 10 + (digit - 48)) n digits
at_least n [] = omega arith
at_least n (d ∷ digits) =
    let more : n * 10 ≤ n * 10 + (d - 48) = omega arith in
    rw pow-suc (omega (arith, mul-le-mul_right (10 ^ length digits) more, at_least (n * 10 + (d - 48)) digits))

first_digit : (d : ℕ) (a b : Bool) → 48 ≤ d → (a || not b) ≡ true → (a ≡ true → ⊥) → (d ≡ 48 → b ≡ true) → 1 ≤ d - 48
first_digit d true b low h one zero = absurd (one refl)
first_digit d false true low h one zero = cc
first_digit d false false low h one zero =
    let ne : d ≡ 48 → ⊥ = λ e. let t = zero e in cc in
    omega (arith, ne)

not_one : (digits : List ℕ) → 10 < suc (length digits) → eqb (suc (length digits)) 1 ≡ true → ⊥
not_one digits long e = let one = eqb-true (suc (length digits)) 1 e in omega (arith, one)

first_is : (d : ℕ) (digits : List ℕ) → is_number (d ∷ digits) ≡ true → 10 < length (d ∷ digits) → 1 ≤ d - 48
first_is d digits h long =
    let parts = and_parts (list_all is_digit (d ∷ digits)) (eqb (length (d ∷ digits)) 1 || not (eqb d 48)) (and_parts _ _ h).1 in
    let low = and_parts (leb 48 d) (leb d 57) (and_parts (is_digit d) (list_all is_digit digits) parts.0).0 in
    first_digit d (eqb (length (d ∷ digits)) 1) (eqb d 48) (leb-true 48 d low.0) parts.1 (not_one digits long) (eq-eqb d 48)

least : (n : ℕ) (digits : List ℕ) → 1 ≤ n → 10 ≤ length digits → 10 ^ 10 ≤ fold (λ n digit. n * 10 + (digit - 48)) n digits
least n digits some long =
    let power = pow-le-pow_right {n = 10} (lit< tt) {i = 10} {j = length digits} long in
    let times = mul-le-mul_right (10 ^ length digits) some in
    omega (arith, at_least n digits, times, power)

-- a number of more than ten digits is above each limit
pub too_long : (word : List ℕ) → is_number word ≡ true → 10 < length word → 10 ^ 10 ≤ value word
too_long [] h long = absurd (omega arith)
too_long (d ∷ digits) h long =
    let some : 1 ≤ 0 + (d - 48) = omega (arith, first_is d digits h long) in
    let rest : 10 ≤ length digits = omega arith in
    least (0 + (d - 48)) digits some rest

outside : (low high v : ℕ) (n a b : Bool) → (a ≡ leb low v) → b ≡ leb v high → high < v → cond (n && (a && b)) (Some v) None ≡ None
outside low high v true true true one other above = let e = leb-true v high (sym other) in absurd (omega (arith, e))
outside low high v true true false one other above = refl
outside low high v true false b one other above = refl
outside low high v false a b one other above = refl

pub none_too_long : (low high : ℕ) (word : List ℕ) → high < 10 ^ 10 → is_number word ≡ true → 10 < length word → number_within low high word ≡ None
unfolding number_within
none_too_long low high word limit h long =
    outside low high (value word) (is_number word) (leb low (value word)) (leb (value word) high) refl refl (omega (arith, limit, too_long word h long))

pub none_other : (low high : ℕ) (word : List ℕ) → is_number word ≡ false → number_within low high word ≡ None
unfolding number_within
none_other low high word h = ap (λ b. cond (b && (leb low (value word) && leb (value word) high)) (Some (value word)) None) h
