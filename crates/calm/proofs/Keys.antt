-- Contents of which one key has changed.
use Rattle.std.proofs.Common.{◌≡◌, ◌≢◌, ℕ, true, List, eqb, Some, inl, inr, refl, sym, ap, ◌∙◌, rules}
use Rattle.std.specs.Prelude.{bytes_eq}
use Rattle.std.proofs.lemmas.Bool.{cases_Bool, eqb-true, and_parts}
use Rattle.std.proofs.lemmas.Slice.Eq.{bytes_eq-Decides}
use Rattle.port.specs.declared.key.Key.{Key}
use Rattle.port.specs.declared.key.Key.TheVariants as keys
use Rattle.port.specs.Contents.{Contents, is_same_key, put, fresh, with_attached}
use Rattle.port.specs.Stored.{Stored}
use Rattle.calm.specs.Calm.{OnlyAt}

same_number : (n : ℕ) → eqb n n ≡ true
same_number n = search rules

pub key_itself : (key : Key) → is_same_key key key ≡ true
key_itself (keys.Row handle height) = rw ((bytes_eq-Decides handle handle).1 refl, same_number height) refl
key_itself (keys.View number) = same_number number
key_itself (keys.Finals number) = same_number number

pub one_key : (key other : Key) → is_same_key key other ≡ true → key ≡ other
one_key (keys.Row handle height) (keys.Row handle' height') e =
    let p = and_parts (bytes_eq handle handle') (eqb height height') e in
    ap (λ (h : List ℕ). keys.Row h height) ((bytes_eq-Decides handle handle').0 p.0) ∙ ap (λ (n : ℕ). keys.Row handle' n) (eqb-true height height' p.1)
one_key (keys.View number) (keys.View number') e = ap (λ (n : ℕ). keys.View n) (eqb-true number number' e)
one_key (keys.Finals number) (keys.Finals number') e = ap (λ (n : ℕ). keys.Finals n) (eqb-true number number' e)
one_key (keys.Row handle height) (keys.View number) e = absurd cc
one_key (keys.Row handle height) (keys.Finals number) e = absurd cc
one_key (keys.View number) (keys.Row handle height) e = absurd cc
one_key (keys.View number) (keys.Finals number') e = absurd cc
one_key (keys.Finals number) (keys.Row handle height) e = absurd cc
one_key (keys.Finals number) (keys.View number') e = absurd cc

pub put_here : (contents : Contents) (key : Key) (stored : Stored) → put contents key stored key ≡ Some stored
put_here contents key stored = rw (key_itself key) refl

pub put_elsewhere : (contents : Contents) (key other : Key) (stored : Stored) → other ≢ key → put contents key stored other ≡ contents other
put_elsewhere contents key other stored apart =
    elim (cases_Bool (is_same_key key other)) [
      | inl same ↦ absurd (apart (sym (one_key key other same)))
      | inr not_same ↦ rw not_same refl
    ]

-- a body that was put, and then something attached to it
pub put_and_attached : (contents : Contents) (key : Key) (body bytes : List ℕ) → OnlyAt key contents (put (put contents key (fresh body)) key (with_attached (fresh body) bytes))
put_and_attached contents key body bytes other apart =
    put_elsewhere (put contents key (fresh body)) key other (with_attached (fresh body) bytes) apart ∙ put_elsewhere contents key other (fresh body) apart
