-- Lists of bytes in parts of known lengths.
use Rattle.std.proofs.Common.{◌≡◌, ℕ, ◌<◌, ◌+◌, ◌-◌, ◌^◌, List, ◌++◌, length, get_or, take, drop, Option, Some, None, Ok, Err, sym, ap, subst, ◌∙◌, arith, inl, inr}
use Rattle.std.specs.Option.{ok_or}
use Rattle.std.specs.Int.{w64, to_be_bytes, from_be_bytes}
use Rattle.std.proofs.lemmas.Bool.{cases_lt}
use Rattle.std.proofs.lemmas.List.{take_at, drop_at, get_or_past, get_or_append_left}
use Rattle.std.proofs.Math.Seq.{get_or-append_right}
use Rattle.std.proofs.lemmas.Nat.{from_be_bytes-to_be_bytes_8}
use Rattle.nim_base.specs.Cursor.{Takes}

-- fronts of one length are one
pub same_parts : (a b x y : List ℕ) (n : ℕ) → length a ≡ n → length b ≡ n → a ++ x ≡ b ++ y → (a ≡ b) × (x ≡ y)
same_parts a b x y n la lb e =
    (sym (take_at a x n la) ∙ ap (take n) e ∙ take_at b y n lb, sym (drop_at a x n la) ∙ ap (drop n) e ∙ drop_at b y n lb)

pub same_number_8 : (m n : ℕ) → m < 2 ^ 64 → n < 2 ^ 64 → to_be_bytes w64 m ≡ to_be_bytes w64 n → m ≡ n
same_number_8 m n lm ln e = sym (from_be_bytes-to_be_bytes_8 m lm) ∙ ap (from_be_bytes w64) e ∙ from_be_bytes-to_be_bytes_8 n ln

abbrev pub IsBytes : List ℕ → Type 0
IsBytes bytes = (i : ℕ) → get_or bytes i 0 < 256

pub IsBytes-front : (a r : List ℕ) → IsBytes (a ++ r) → IsBytes a
IsBytes-front a r fits i =
    elim (cases_lt i (length a)) [
      | inl lt ↦ rw (← get_or_append_left a r 0 i lt) (fits i)
      | inr le ↦ rw (get_or_past a i 0 le) (omega arith)
    ]

pub IsBytes-rest : (a r : List ℕ) → IsBytes (a ++ r) → IsBytes r
IsBytes-rest a r fits i =
    let place : length a + i - length a ≡ i = omega arith in
    omega (arith, fits (length a + i), get_or-append_right a r (length a + i) 0 (omega arith), ap (λ j. get_or r j 0) place)

-- what a read that succeeded took, and why one failed
pub taken : {T E : Type 0} (n : ℕ) (shows : List ℕ → T → Type 0) (old new : List ℕ) (r : Option T) (fault : E) (v : T) → ok_or r fault ≡ Ok v → Takes n shows old new r
    → (bytes : List ℕ) × (length bytes ≡ n) × (old ≡ bytes ++ new) × shows bytes v
taken n shows old new None fault v e t = absurd cc
taken {T} n shows old new (Some x) fault v e t =
    let same : x ≡ v = cc in (t.0, t.1, t.2, subst (λ (y : T). shows t.0 y) same t.3)

pub missing : {T E : Type 0} (n : ℕ) (shows : List ℕ → T → Type 0) (old new : List ℕ) (r : Option T) (fault f : E) → ok_or r fault ≡ Err f → Takes n shows old new r → (length old < n) × (f ≡ fault)
missing n shows old new None fault f e t = (t.0, cc)
missing n shows old new (Some x) fault f e t = absurd cc

-- the same, where what is read is the bytes
pub taken_bytes : {E : Type 0} (n : ℕ) (old new : List ℕ) (r : Option (List ℕ)) (fault : E) (v : List ℕ) → ok_or r fault ≡ Ok v → Takes n (λ bytes found. found ≡ bytes) old new r
    → (length v ≡ n) × (old ≡ v ++ new)
taken_bytes n old new r fault v e t =
    let p = taken n (λ bytes found. found ≡ bytes) old new r fault v e t in
    (ap length p.3 ∙ p.1, p.2 ∙ ap (λ l. l ++ new) (sym p.3))
