-- What is kept after one line more.
use Rattle.std.proofs.Common.{◌≡◌, ◌∙◌, ◌+◌, refl, sym, ap, subst, ℕ, Bool, true, false, cond, ◌||◌, List, [], ◌∷◌, ◌++◌, length, count_by}
use Rattle.std.specs.List.{list_any}
use Rattle.std.proofs.lemmas.List.{length_push}
use Rattle.std.proofs.lemmas.List.Folds.{list_any-append}
use Rattle.std.proofs.lemmas.List.Sums.{fold_push}
use Rattle.fault_script.specs.declared.counts.Counts.{Counts}
use Rattle.fault_script.specs.declared.labels.Labels.{Labels}
use Rattle.fault_script.specs.declared.operations.Operations.{Operations}
use Rattle.fault_script.specs.declared.standing.Standing.TheVariants.{Unbegun}
use Rattle.fault_script.specs.Command.{Command}
use Rattle.fault_script.specs.Kept.{has, standing_in, AreBefore, IsKept}
use Rattle.fault_script.specs.Labels.{has_label}
use Rattle.fault_script.specs.Limits.{is_new, is_reconfigure, is_raw_finalize, counts_of}
use Rattle.fault_script.specs.Line.{is_end}
use Rattle.fault_script.specs.Operations.{standing_after}

or_false : (b : Bool) → (b || false) ≡ b
or_false true = refl
or_false false = refl

any_more : {X : Type 0} (p : X → Bool) (xs : List X) (x : X) → list_any p (xs ++ x ∷ []) ≡ (list_any p xs || p x)
any_more p xs x = list_any-append p xs (x ∷ []) ∙ ap (λ b. list_any p xs || b) (or_false (p x))

pub count_more : {X : Type 0} (p : X → Bool) (xs : List X) (x : X) → count_by p (xs ++ x ∷ []) ≡ count_by p xs + cond (p x) 1 0
count_more p xs x = fold_push (λ n y. n + cond (p y) 1 0) 0 xs x

same_counts : (a b : Counts) → a.news ≡ b.news → a.reconfigures ≡ b.reconfigures → a.finalizes ≡ b.finalizes → a ≡ b
same_counts a b n r f =
    ap (λ (k : ℕ). let made : Counts = record { news = k; reconfigures = a.reconfigures; finalizes = a.finalizes } in made) n
    ∙ ap (λ (k : ℕ). let made : Counts = record { news = b.news; reconfigures = k; finalizes = a.finalizes } in made) r
    ∙ ap (λ (k : ℕ). let made : Counts = record { news = b.news; reconfigures = b.reconfigures; finalizes = k } in made) f

pub kept_more : (labels next_labels : Labels) (operations next_operations : Operations) (counts next_counts : Counts) (ended next_ended : Bool) (commands : List Command) (c : Command)
    → IsKept labels operations counts ended commands
    → ((name : List ℕ) → has next_labels name ≡ (has labels name || has_label name c))
    → ((name : List ℕ) → standing_in next_operations name ≡ standing_after name (standing_in operations name) c)
    → AreBefore (length commands + 1) next_operations
    → next_counts.news ≡ counts.news + cond (is_new c) 1 0
    → next_counts.reconfigures ≡ counts.reconfigures + cond (is_reconfigure c) 1 0
    → next_counts.finalizes ≡ counts.finalizes + cond (is_raw_finalize c) 1 0
    → next_ended ≡ (ended || is_end c)
    → IsKept next_labels next_operations next_counts next_ended (commands ++ c ∷ [])
kept_more labels next_labels operations next_operations counts next_counts ended next_ended commands c kept used stand before news reconfigures finalizes over = record {
  used = λ name. used name ∙ ap (λ b. b || has_label name c) (kept.used name) ∙ sym (any_more (has_label name) commands c);
  stand = λ name. stand name ∙ ap (λ s. standing_after name s c) (kept.stand name) ∙ sym (fold_push (standing_after name) Unbegun commands c);
  before = let P : ℕ → Type 0 = λ n. AreBefore n next_operations in subst P (sym (length_push commands c)) before;
  counted = same_counts next_counts (counts_of (commands ++ c ∷ []))
      (news ∙ ap (λ (k : Counts). k.news + cond (is_new c) 1 0) kept.counted ∙ sym (count_more is_new commands c))
      (reconfigures ∙ ap (λ (k : Counts). k.reconfigures + cond (is_reconfigure c) 1 0) kept.counted ∙ sym (count_more is_reconfigure commands c))
      (finalizes ∙ ap (λ (k : Counts). k.finalizes + cond (is_raw_finalize c) 1 0) kept.counted ∙ sym (count_more is_raw_finalize commands c));
  over = over ∙ ap (λ b. b || is_end c) kept.over ∙ sym (any_more is_end commands c);
}
