-- Bytes in dictionary order.
use Rattle.std.proofs.Common.{◌≡◌, ℕ, true, false, List, refl, sym, ap, ◌∙◌}
use Rattle.std.specs.declared.cmp.Ordering.{Ordering}
use Rattle.std.specs.declared.cmp.Ordering.TheVariants.{Less, Equal, Greater}
use Rattle.std.specs.Cmp.Lexicographic.{slice_cmp}
use Rattle.std.specs.Ordering.{nat_cmp, is_eq, is_lt, ordering_reverse}
use Rattle.std.specs.Str.{bytes_eq}
use Rattle.std.proofs.lemmas.Bool.{false_from_ne_true}
use Rattle.std.proofs.lemmas.Cmp.{nat_list_cmp_total}
use Rattle.std.proofs.lemmas.Map.Text.{is_eq-slice_cmp}
use Rattle.std.proofs.lemmas.Slice.Eq.{bytes_eq-Decides}
use Rattle.tail_map.specs.TailMap.{IsBelow}

pub by_order : {G : Type 0} (o : Ordering) → (o ≡ Less → G) → (o ≡ Equal → G) → (o ≡ Greater → G) → G
by_order Less less equal greater = less refl
by_order Equal less equal greater = equal refl
by_order Greater less equal greater = greater refl

pub is_less : (o : Ordering) → is_lt o ≡ true → o ≡ Less
is_less Less e = refl
is_less Equal e = absurd cc
is_less Greater e = absurd cc

pub bytes_eq_same : (a : List ℕ) → bytes_eq a a ≡ true
bytes_eq_same a = (bytes_eq-Decides a a).1 refl

pub bytes_eq_other : (a b : List ℕ) → (a ≡ b → ⊥) → bytes_eq a b ≡ false
bytes_eq_other a b ne = false_from_ne_true (bytes_eq a b) (λ e. ne ((bytes_eq-Decides a b).0 e))

pub bytes_eq_equal : (a b : List ℕ) → slice_cmp nat_cmp a b ≡ Equal → bytes_eq a b ≡ true
bytes_eq_equal a b e = sym (is_eq-slice_cmp a b) ∙ ap is_eq e

pub bytes_eq_less : (a b : List ℕ) → slice_cmp nat_cmp a b ≡ Less → bytes_eq a b ≡ false
bytes_eq_less a b e = sym (is_eq-slice_cmp a b) ∙ ap is_eq e

pub bytes_eq_greater : (a b : List ℕ) → slice_cmp nat_cmp a b ≡ Greater → bytes_eq a b ≡ false
bytes_eq_greater a b e = sym (is_eq-slice_cmp a b) ∙ ap is_eq e

pub equal_is : (a b : List ℕ) → slice_cmp nat_cmp a b ≡ Equal → a ≡ b
equal_is a b e = (bytes_eq-Decides a b).0 (bytes_eq_equal a b e)

pub below_trans : (a b c : List ℕ) → IsBelow a b → IsBelow b c → IsBelow a c
below_trans a b c p q = nat_list_cmp_total.trans a b c p q

pub below_greater : (a b : List ℕ) → slice_cmp nat_cmp a b ≡ Greater → IsBelow b a
below_greater a b e = nat_list_cmp_total.antisymm b a ∙ ap ordering_reverse e

pub greater_below : (a b : List ℕ) → IsBelow a b → slice_cmp nat_cmp b a ≡ Greater
greater_below a b e = nat_list_cmp_total.antisymm b a ∙ ap ordering_reverse e
