-- A map by an order in which keys tie just where they are the same.
use Rattle.std.proofs.Common.{◌≡◌, ◌∙◌, refl, sym, ap, Bool, true, false, cond, List}
use Rattle.std.proofs.Math.Path.{fun_ext}
use Rattle.std.specs.Prelude.{Option, Some, if◌then◌else◌}
use Rattle.std.specs.declared.cmp.Ordering.{Ordering}
use Rattle.std.specs.Ordering.{is_eq}
use Rattle.std.specs.Option.{unwrap_or}
use Rattle.std.specs.Map.{lookup}
use Rattle.std.specs.BTreeMap.{is_at}
use Rattle.port.specs.declared.key.Key.{Key}
use Rattle.port.specs.Contents.{is_same_key}

module _ (cmp : Key → Key → Ordering) (ties : (a b : Key) → is_eq (cmp a b) ≡ is_same_key a b) {X : Type 0} where
  found : (entries : List (Key × X)) (q : Key) → lookup (is_at (cmp q)) entries ≡ lookup (is_same_key q) entries
  found entries q = ap (λ (t : Key → Bool). lookup t entries) (fun_ext (ties q))

  pub set_key : (before after : List (Key × X)) (k : Key) (s : X)
      → ((q : Key) → lookup (is_at (cmp q)) after ≡ cond (is_at (cmp k) q) (Some s) (lookup (is_at (cmp q)) before))
      → ◌≡◌ {A = Key → Option X} (λ q. lookup (is_same_key q) after) (λ q. if is_same_key k q then Some s else lookup (is_same_key q) before)
  set_key before after k s updates = fun_ext (λ q.
      sym (found after q) ∙ updates q ∙ ap (λ (b : Bool). cond b (Some s) (lookup (is_at (cmp q)) before)) (ties k q)
      ∙ ap (λ (o : Option X). cond (is_same_key k q) (Some s) o) (found before q))

  -- what isn't at the key stays
  pub apart : (before after : List (Key × X)) (k : Key) (s : X)
      → ((q : Key) → lookup (is_at (cmp q)) after ≡ cond (is_at (cmp k) q) (Some s) (lookup (is_at (cmp q)) before))
      → (other : Key) → is_same_key k other ≡ false → lookup (is_same_key other) after ≡ lookup (is_same_key other) before
  apart before after k s updates other is =
      sym (found after other) ∙ updates other ∙ ap (λ (b : Bool). cond b (Some s) (lookup (is_at (cmp other)) before)) (ties k other ∙ is) ∙ found before other

unwrapped : {X : Type 0} (b : Bool) (x d : X) (o : Option X) → unwrap_or (cond b (Some x) o) d ≡ (if b then x else unwrap_or o d)
unwrapped true x d o = refl
unwrapped false x d o = refl

module _ (cmp : Key → Key → Ordering) (ties : (a b : Key) → is_eq (cmp a b) ≡ is_same_key a b) where
  -- by key, with a value of their own for keys that aren't there
  valued : {X : Type 0} (d : Key → X) (before after : List (Key × X)) (k : Key) (s : X)
      → ((q : Key) → lookup (is_at (cmp q)) after ≡ cond (is_at (cmp k) q) (Some s) (lookup (is_at (cmp q)) before))
      → (q : Key) → unwrap_or (lookup (is_same_key q) after) (d q) ≡ (if is_same_key k q then s else unwrap_or (lookup (is_same_key q) before) (d q))
  valued {X} d before after k s updates q =
      ap (λ (f : Key → Option X). unwrap_or (f q) (d q)) (set_key cmp ties before after k s updates)
      ∙ unwrapped (is_same_key k q) s (d q) (lookup (is_same_key q) before)

  pub pointed : (before after : List (Key × Option Key)) (k : Key) (s : Option Key)
      → ((q : Key) → lookup (is_at (cmp q)) after ≡ cond (is_at (cmp k) q) (Some s) (lookup (is_at (cmp q)) before))
      → ◌≡◌ {A = Key → Option Key} (λ q. unwrap_or (lookup (is_same_key q) after) (Some q)) (λ q. if is_same_key k q then s else unwrap_or (lookup (is_same_key q) before) (Some q))
  pointed before after k s updates = fun_ext (valued (λ q. Some q) before after k s updates)

  pub forked : (before after : List (Key × Bool)) (k : Key)
      → ((q : Key) → lookup (is_at (cmp q)) after ≡ cond (is_at (cmp k) q) (Some true) (lookup (is_at (cmp q)) before))
      → ◌≡◌ {A = Key → Bool} (λ q. unwrap_or (lookup (is_same_key q) after) false) (λ q. if is_same_key k q then true else unwrap_or (lookup (is_same_key q) before) false)
  forked before after k updates = fun_ext (valued (λ q. false) before after k true updates)
