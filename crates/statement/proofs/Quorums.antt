-- Two quorums have a member in common.
use Rattle.std.proofs.Common.{◌≡◌, ◌≢◌, ℕ, suc, ◌+◌, ◌≤◌, ◌⊎◌, inl, inr, Bool, true, false, cond, eqb, List, [], ◌∷◌, length, refl, sym, ap, ◌∙◌, arith}
use Rattle.std.specs.Prelude.{sum_by, AllPairs, Contains, unwrap_or}
use Rattle.std.proofs.lemmas.Bool.{eqb-true, eq-eqb, ne_eqb, false_from_ne_true, eqb-false, cases_Bool}
use Rattle.std.proofs.lemmas.List.Sums.{sum_by-cons}
use Rattle.statement.specs.declared.member.Member.{Member}
use Rattle.statement.specs.Config.{member_weight, weight_of, weight_together, IsQuorum}

pub sum_of_ones : (members : List Member) → sum_by member_weight members ≡ length members
sum_of_ones [] = refl
sum_of_ones (m ∷ ms) = omega (arith, sum_by-cons member_weight m ms, sum_of_ones ms)

abbrev has : List ℕ → ℕ → Bool
has [] id = false
has (x ∷ xs) id = cond (eqb x id) true (has xs id)

by_test : {G : Type 0} (b : Bool) → (b ≡ true → G) → (b ≡ false → G) → G
by_test b pass fail = elim (cases_Bool b) [ inl e ↦ pass e | inr e ↦ fail e ]

has_contains : (xs : List ℕ) (id : ℕ) → has xs id ≡ true → Contains xs id
has_contains [] id e = absurd cc
has_contains (x ∷ xs) id e =
    by_test (eqb x id)
    (λ same. (0, omega arith, eqb-true x id same))
    (λ other.
    let rest : has xs id ≡ true = rw other at e in
    let there = has_contains xs id rest in (suc there.0, omega (arith, there.1), there.2))

has_not : (x : ℕ) (xs : List ℕ) → AllPairs (λ one other. one ≢ other) (x ∷ xs) → has xs x ≡ false
has_not x xs apart =
    false_from_ne_true (has xs x) (λ e.
    let there = has_contains xs x e in apart 0 (suc there.0) x (omega arith) (omega (arith, there.1)) (sym there.2))

-- what the members weigh whose ids are among these
abbrev among : List Member → List ℕ → ℕ
among [] ids = 0
among (m ∷ ms) ids = cond (has ids m.id) (member_weight m) 0 + among ms ids

abbrev weight_at : List Member → ℕ → ℕ
weight_at members id = unwrap_or (weight_of members id) 0

among_more : (ms : List Member) (x : ℕ) (ids : List ℕ) → among ms ids ≤ among ms (x ∷ ids)
among_more [] x ids = omega arith
among_more (m ∷ ms) x ids =
    let rest = among_more ms x ids in
    by_test (eqb x m.id)
    (λ same. by_test (has ids m.id) (λ in_it. rw (same, in_it) (omega (arith, rest))) (λ apart. rw (same, apart) (omega (arith, rest))))
    (λ other. rw other (omega (arith, rest)))

ne_from_eqb : (a b : ℕ) → eqb a b ≡ false → a ≡ b → ⊥
ne_from_eqb a b e same = eqb-false a b e same

among_one : (ms : List Member) (x : ℕ) (ids : List ℕ) → has ids x ≡ false → weight_at ms x + among ms ids ≤ among ms (x ∷ ids)
among_one [] x ids apart = omega arith
among_one (m ∷ ms) x ids apart =
    by_test (eqb m.id x)
    (λ same.
    let here : has ids m.id ≡ false = ap (has ids) (eqb-true m.id x same) ∙ apart in
    let there : eqb x m.id ≡ true = eq-eqb x m.id (sym (eqb-true m.id x same)) in
    rw (same, here, there) (omega (arith, among_more ms x ids)))
    (λ other.
    let there : eqb x m.id ≡ false = ne_eqb x m.id (λ e. ne_from_eqb m.id x other (sym e)) in
    rw (other, there) (omega (arith, among_one ms x ids apart)))

sum_among : (members : List Member) (ids : List ℕ) → AllPairs (λ one other. one ≢ other) ids → weight_together members ids ≤ among members ids
sum_among members [] apart = omega arith
sum_among members (x ∷ ids) apart =
    let rest = sum_among members ids (λ i j d lt below. apart (suc i) (suc j) d (omega arith) (omega arith)) in
    let one = among_one members x ids (has_not x ids apart) in
    omega (arith, rest, one, sum_by-cons (weight_at members) x ids)

both : (ms : List Member) (a b : List ℕ) → (among ms a + among ms b ≤ sum_by member_weight ms) ⊎ ((id : ℕ) × Contains a id × Contains b id)
both [] a b = inl (omega arith)
both (m ∷ ms) a b =
    elim (both ms a b) [
      | inr found ↦ inr found
      | inl rest ↦
          by_test (has a m.id)
          (λ in_a. by_test (has b m.id)
          (λ in_b. inr (m.id, has_contains a m.id in_a, has_contains b m.id in_b))
          (λ not_b. inl (rw (in_a, not_b) (omega (arith, rest, sum_by-cons member_weight m ms)))))
          (λ not_a. inl (rw not_a (by_test (has b m.id)
          (λ in_b. rw in_b (omega (arith, rest, sum_by-cons member_weight m ms)))
          (λ not_b. rw not_b (omega (arith, rest, sum_by-cons member_weight m ms))))))
    ]

pub meet : (members : List Member) (a b : List ℕ) → IsQuorum members a → IsQuorum members b → (id : ℕ) × Contains a id × Contains b id
meet members a b p q =
    elim (both members a b) [
      | inr found ↦ found
      | inl apart ↦ absurd (omega (arith, apart, sum_among members a p.apart, sum_among members b q.apart, p.enough, q.enough))
    ]
