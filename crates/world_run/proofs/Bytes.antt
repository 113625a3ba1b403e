-- The test of two lists of bytes.
use Rattle.std.proofs.Common.{◌≡◌, ℕ, List, true, false, refl, sym}
use Rattle.std.specs.Prelude.{bytes_eq, Bool}
use Rattle.std.proofs.lemmas.Slice.Eq.{bytes_eq-Decides}

pub same_bytes : (xs ys : List ℕ) → bytes_eq xs ys ≡ true → xs ≡ ys
same_bytes xs ys e = (bytes_eq-Decides xs ys).0 e

pub bytes_eq-self : (xs : List ℕ) → bytes_eq xs xs ≡ true
bytes_eq-self xs = (bytes_eq-Decides xs xs).1 refl

pub bytes_eq-swap : (xs ys : List ℕ) → bytes_eq xs ys ≡ bytes_eq ys xs
bytes_eq-swap xs ys = cases (bytes_eq xs ys) (bytes_eq ys xs) refl refl where
  cases : (a b : Bool) → bytes_eq xs ys ≡ a → bytes_eq ys xs ≡ b → a ≡ b
  cases true true p q = refl
  cases false false p q = refl
  cases true false p q = let back = (bytes_eq-Decides ys xs).1 (sym (same_bytes xs ys p)) in cc
  cases false true p q = let back = (bytes_eq-Decides xs ys).1 (sym (same_bytes ys xs q)) in cc
