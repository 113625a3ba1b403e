-- No member told more than the target's count when it was asked first.
use Rattle.std.proofs.Common.{◌≡◌, ℕ, zero, suc, ◌<◌, ◌≤◌, ◌==◌, max, Bool, true, false, if◌then◌else◌, List, [], ◌∷◌, slice_get, Option, Some, None, refl, sym, subst, arith}
use Rattle.std.specs.Prelude.{find, unwrap_or}
use Rattle.std.specs.List.{cons_option}
use Rattle.op_latest.specs.declared.latest_head.LatestHead.{LatestHead}
use Rattle.op_latest.specs.LatestVote.{Vote, Told, Ahead, Blamed, MemberVote, head_of, heads, greatest, no_entries, target}

same_count : (a b : ℕ) → (a == b) ≡ true → a ≡ b
same_count a b e = grind (arith, e)

other_count : (a b : ℕ) → (a == b) ≡ false → a ≡ b → ⊥
other_count a b e is = absurd (grind (arith, e, is))

at_most : (head : LatestHead) (all : List LatestHead) (m : ℕ) → max head.count (greatest all) ≡ m → (head.count ≡ m → ⊥) → greatest all ≡ m
at_most head all m is other = grind (arith, is, other)

-- the greatest count is found
most_found : (all : List LatestHead) (m : ℕ) → greatest all ≡ m → 0 < m → find (λ head. head.count == m) all ≡ None → ⊥
most_found [] m is some none = absurd (omega (arith, is, some))
most_found (head ∷ all) m is some none = by (head.count == m) refl (λ other rest. most_found all m (at_most head all m is other) some rest) none
  where
    by : (b : Bool) → (head.count == m) ≡ b → ((head.count ≡ m → ⊥) → find (λ h. h.count == m) all ≡ None → ⊥) → (if b then Some head else find (λ h. h.count == m) all) ≡ None → ⊥
    by true e below none = absurd (cc none)
    by false e below none = below (other_count head.count m e) none

holds : (m : ℕ) (all : List LatestHead) (found : LatestHead) → find (λ head. head.count == m) all ≡ Some found → found.count ≡ m
holds m [] found e = absurd (cc e)
holds m (head ∷ all) found e = by (head.count == m) refl (λ rest. holds m all found rest) e
  where
    by : (b : Bool) → (head.count == m) ≡ b → (find (λ h. h.count == m) all ≡ Some found → found.count ≡ m) → (if b then Some head else find (λ h. h.count == m) all) ≡ Some found → found.count ≡ m
    by true is below e = let same : head ≡ found = cc e in subst (λ (h : LatestHead). h.count ≡ m) same (same_count head.count m is)
    by false is below e = below e

target_count : (votes : List MemberVote) → (target votes).count ≡ greatest (heads votes)
target_count votes = by (find (λ head. head.count == greatest (heads votes)) (heads votes)) refl (greatest (heads votes)) refl
  where
    by : (o : Option LatestHead) → find (λ head. head.count == greatest (heads votes)) (heads votes) ≡ o → (m : ℕ) → greatest (heads votes) ≡ m → (unwrap_or o no_entries).count ≡ greatest (heads votes)
    by (Some found) is m e = holds (greatest (heads votes)) (heads votes) found is
    by None is zero e = sym e
    by None is (suc m) e = absurd (most_found (heads votes) (greatest (heads votes)) refl (omega (arith, e)) is)

more : (vote : Vote) (all : List LatestHead) → greatest all ≤ greatest (cons_option (head_of vote) all)
more (Told tail count sig) all = omega arith
more (Ahead count tail) all = omega arith
more (Blamed cause) all = omega arith

told_most : (votes : List MemberVote) (k id count : ℕ) (tail sig : List ℕ) → slice_get votes k ≡ Some (record { id = id; vote = Told tail count sig }) → count ≤ greatest (heads votes)
told_most [] k id count tail sig is = absurd (cc is)
told_most (one ∷ votes) zero id count tail sig is =
    let same : one ≡ record { id = id; vote = Told tail count sig } = cc is in
    subst (λ (o : MemberVote). count ≤ greatest (cons_option (head_of o.vote) (heads votes))) (sym same) (omega arith)
told_most (one ∷ votes) (suc k) id count tail sig is = omega (arith, told_most votes k id count tail sig is, more one.vote (heads votes))

pub told_below : (votes : List MemberVote) (k id count : ℕ) (tail sig : List ℕ) → slice_get votes k ≡ Some (record { id = id; vote = Told tail count sig }) → count ≤ (target votes).count
told_below votes k id count tail sig is = subst (λ (m : ℕ). count ≤ m) (sym (target_count votes)) (told_most votes k id count tail sig is)

-- what is found has what was looked for
pub found_holds : {X : Type 0} (test : X → Bool) (xs : List X) (x : X) → find test xs ≡ Some x → test x ≡ true
found_holds test [] x e = absurd (cc e)
found_holds {X} test (first ∷ xs) x e = by (test first) refl (λ rest. found_holds test xs x rest) e
  where
    by : (b : Bool) → test first ≡ b → (find test xs ≡ Some x → test x ≡ true) → (if b then Some first else find test xs) ≡ Some x → test x ≡ true
    by true is below e = let same : first ≡ x = cc e in subst (λ (y : X). test y ≡ true) same is
    by false is below e = below e
