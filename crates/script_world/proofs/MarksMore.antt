-- One signer more.
use Rattle.std.proofs.Common.{◌≡◌, inl, inr, ℕ, List, [], ◌∷◌, ◌++◌, map, Option, Some, None, MatchOption, refl, sym, ap, subst}
use Rattle.std.specs.Prelude.{option_to_list}
use Rattle.std.proofs.lemmas.List.{map-append}
use Rattle.statement.specs.Mark.{Content as Mark}
use Rattle.script_world.specs.Signed.{AreMarksBy}

module _ {S : Type 0} (left : S → ℕ) (signs : S → List ℕ → List ℕ → S → Type 0) (bytes : List ℕ) where
  -- what one signer made
  abbrev pub MadeMark : ℕ → S → Option Mark → Type 0
  MadeMark id signer mark = MatchOption mark (left signer ≡ 0) (λ mark. (mark.id ≡ id) × ((after : S) × signs signer bytes mark.sig after))

  alone : (id : ℕ) (signer : S) (mark : Option Mark) → MadeMark id signer mark → AreMarksBy left signs bytes ((id, signer) ∷ []) (option_to_list mark)
  alone id signer None made = inl (made, refl)
  alone id signer (Some mark) made =
      inr (mark.sig, made.1.0, [], made.1.1, ap (λ (own : ℕ). record { id = own; sig = mark.sig } ∷ []) made.0, refl)

  pub marks_more : (signers : List (ℕ × S)) (marks : List Mark) (id : ℕ) (signer : S) (mark : Option Mark) → AreMarksBy left signs bytes signers marks → MadeMark id signer mark
      → AreMarksBy left signs bytes (signers ++ (id, signer) ∷ []) (marks ++ option_to_list mark)
  marks_more [] marks id signer mark are made =
      subst (λ (marks : List Mark). AreMarksBy left signs bytes ((id, signer) ∷ []) (marks ++ option_to_list mark)) (sym are) (alone id signer mark made)
  marks_more ((own, first) ∷ signers) marks id signer mark (inl (spent, are)) made = inl (spent, marks_more signers marks id signer mark are made)
  marks_more ((own, first) ∷ signers) marks id signer mark (inr (sig, after, rest, signed, is, are)) made =
      inr (sig, after, rest ++ option_to_list mark, signed, ap (λ (marks : List Mark). marks ++ option_to_list mark) is, marks_more signers rest id signer mark are made)

-- the same over what the signers stand in
pub marks_step : {S X : Type 0} (left : S → ℕ) (signs : S → List ℕ → List ℕ → S → Type 0) (bytes own : List ℕ) (ys : List X) (x : X) (f : X → ℕ × S) (marks later : List Mark) (mark : Option Mark)
    → own ≡ bytes → AreMarksBy left signs bytes (map f ys) marks → MadeMark left signs own (f x).0 (f x).1 mark → later ≡ marks ++ option_to_list mark
    → AreMarksBy left signs bytes (map f (ys ++ x ∷ [])) later
marks_step {S} {X} left signs bytes own ys x f marks later mark same are made more =
    subst (λ (later : List Mark). AreMarksBy left signs bytes (map f (ys ++ x ∷ [])) later) (sym more)
    (subst (λ (signers : List (ℕ × S)). AreMarksBy left signs bytes signers (marks ++ option_to_list mark)) (sym (map-append f ys (x ∷ [])))
    (marks_more left signs bytes (map f ys) marks (f x).0 (f x).1 mark are
    (subst (λ (bytes : List ℕ). MadeMark left signs bytes (f x).0 (f x).1 mark) same made)))
