-- The marks of lines that grow by one.
use Rattle.std.proofs.Common.{◌≡◌, ◌≢◌, ℕ, zero, suc, ◌+◌, ◌<◌, Bool, true, false, cond, eqb, List, [], ◌∷◌, ◌++◌, length, set, get_or, Option, Some, None, IfSome, IsTrue, ◌↔◌, refl, sym, ap, subst, ◌∙◌, append-nil, arith}
use Rattle.std.specs.Prelude.{option_to_list}
use Rattle.std.proofs.lemmas.List.{length_push}
use Rattle.std.proofs.Math.ListN.{length-set}
use Rattle.stamp_clock.specs.Stamps.{times}
use Rattle.client_pass.specs.Act.{Line}
use Rattle.client_pass.specs.Lines.{AreMarked, marked}
use Rattle.client_pass.specs.ClientList.{IsAnswered, answered, answered_by}
use Rattle.client_pass.proofs.ClientLists.{answered_push, times_append, by_test}

abbrev bit : Bool → ℕ
bit b = cond b 1 0

-- a mark past the end isn't set
unset_end : (marks : List Bool) (n : ℕ) → get_or (marks ++ false ∷ []) n false ≡ get_or marks n false
unset_end [] zero = refl
unset_end [] (suc n) = refl
unset_end (m ∷ marks) zero = refl
unset_end (m ∷ marks) (suc n) = unset_end marks n

set_other : (marks : List Bool) (draw n : ℕ) → draw ≢ n → get_or (set marks draw true) n false ≡ get_or marks n false
set_other [] draw n e = refl
set_other (m ∷ marks) zero zero e = absurd (e refl)
set_other (m ∷ marks) zero (suc n) e = refl
set_other (m ∷ marks) (suc draw) zero e = refl
set_other (m ∷ marks) (suc draw) (suc n) e = set_other marks draw n (λ same. e (ap suc same))

set_own : (marks : List Bool) (draw : ℕ) → draw < length marks → get_or (set marks draw true) draw false ≡ true
set_own [] draw inside = absurd (omega arith)
set_own (m ∷ marks) zero inside = refl
set_own (m ∷ marks) (suc draw) inside = set_own marks draw (omega arith)

-- the marks after an act
abbrev pub marks_after : List Bool → Option ℕ → List Bool
marks_after marks next = marked marks next ++ false ∷ []

abbrev pub Fits : List Line → Option ℕ → Type 0
Fits lines next = IfSome next (λ draw. (draw < length lines) × (times draw (answered lines) ≡ 0))

length_after : (marks : List Bool) (next : Option ℕ) → length (marks_after marks next) ≡ length marks + 1
length_after marks None = length_push marks false
length_after marks (Some draw) = length_push (set marks draw true) false ∙ ap (λ (n : ℕ). n + 1) (length-set marks draw true)

set_after : (lines : List Line) (marks : List Bool) (next : Option ℕ) → AreMarked lines marks → Fits lines next
    → (number : ℕ) → times number (answered lines ++ option_to_list next) ≡ bit (get_or (marks_after marks next) number false)
set_after lines marks None are fits number =
    let e : times number (answered lines ++ []) ≡ times number (answered lines) = ap (times number) (append-nil (answered lines)) in
    e ∙ are.set number ∙ ap bit (sym (unset_end marks number))
set_after lines marks (Some draw) are fits number =
    let e : times number (answered lines ++ draw ∷ []) ≡ times number (answered lines) + (bit (eqb draw number) + 0) = times_append number (answered lines) (draw ∷ []) in
    let old : times number (answered lines) ≡ bit (get_or marks number false) = are.set number in
    let last : bit (get_or (set marks draw true ++ false ∷ []) number false) ≡ bit (get_or (set marks draw true) number false) = ap bit (unset_end (set marks draw true) number) in
    let inside : draw < length marks = omega (arith, are.each, fits.0) in
    by_test draw number
    (λ (is : draw ≡ number) (b : bit (eqb draw number) ≡ 1).
    let fresh : times number (answered lines) ≡ 0 = subst (λ (n : ℕ). times n (answered lines) ≡ 0) is fits.1 in
    let own : bit (get_or (set marks draw true) number false) ≡ 1 = subst (λ (n : ℕ). bit (get_or (set marks draw true) n false) ≡ 1) is (ap bit (set_own marks draw inside)) in
    omega arith)
    (λ (other : draw ≢ number) (b : bit (eqb draw number) ≡ 0).
    let same : bit (get_or (set marks draw true) number false) ≡ bit (get_or marks number false) = ap bit (set_other marks draw number other) in
    omega arith)

pub marked_push : (lines : List Line) (marks : List Bool) (line : Line) → AreMarked lines marks → Fits lines (answered_by line.act)
    → AreMarked (lines ++ line ∷ []) (marks_after marks (answered_by line.act))
marked_push lines marks line are fits = record {
  each = length_after marks (answered_by line.act) ∙ ap (λ (n : ℕ). n + 1) are.each ∙ sym (length_push lines line);
  set = λ number. ap (times number) (answered_push lines line) ∙ set_after lines marks (answered_by line.act) are fits number;
}

by_mark : (count : ℕ) (b : Bool) → count ≡ bit b → IsTrue b ↔ (0 < count)
by_mark count true e = (λ _. omega arith, λ _. refl)
by_mark count false e = (λ t. absurd cc, λ h. absurd (omega arith))

-- the mark tells whether the draw has its reply
pub mark_tells : (lines : List Line) (marks : List Bool) (draw : ℕ) → AreMarked lines marks → IsTrue (get_or marks draw false) ↔ IsAnswered lines draw
mark_tells lines marks draw are = by_mark (times draw (answered lines)) (get_or marks draw false) (are.set draw)
