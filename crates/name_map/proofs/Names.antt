-- Maps whose keys are seen as bytes, after one entry more.
use Rattle.std.proofs.Common.{◌≡◌, ◌∙◌, refl, sym, ap, Bool, true, false, cond, ℕ, List, [], ◌∷◌, map, Option, Some}
use Rattle.std.specs.declared.cmp.Ordering.{Ordering}
use Rattle.std.specs.declared.cmp.Ordering.TheVariants.{Less, Equal, Greater}
use Rattle.std.specs.Ordering.{match_ordering, nat_cmp, is_eq}
use Rattle.std.specs.Cmp.Lexicographic.{slice_cmp}
use Rattle.std.specs.Str.{bytes_eq}
use Rattle.std.specs.Map.{lookup}
use Rattle.std.specs.BTreeMap.{insert_entry}
use Rattle.std.proofs.lemmas.Map.Text.{is_eq-slice_cmp}
use Rattle.std.proofs.lemmas.Slice.Eq.{bytes_eq-Decides}

cond_again : {X : Type 0} (b : Bool) (x y z : X) → cond b x z ≡ cond b x (cond b y z)
cond_again true x y z = refl
cond_again false x y z = refl

cond_swap : {X : Type 0} (a b : Bool) (x y z : X) → (a ≡ true → b ≡ true → x ≡ y) → cond a x (cond b y z) ≡ cond b y (cond a x z)
cond_swap true true x y z same = same refl refl
cond_swap true false x y z same = refl
cond_swap false true x y z same = refl
cond_swap false false x y z same = refl

same_bytes : (a b : List ℕ) → slice_cmp nat_cmp a b ≡ Equal → a ≡ b
same_bytes a b e = (bytes_eq-Decides a b).0 (sym (is_eq-slice_cmp a b) ∙ ap is_eq e)

module _ {K : Type 0} (bytes : K → List ℕ) where
  abbrev order : K → K → Ordering
  order a b = slice_cmp nat_cmp (bytes a) (bytes b)

  abbrev finds : List ℕ → K → Bool
  finds q k = is_eq (slice_cmp nat_cmp q (bytes k))

  module _ {X : Type 0} where
    abbrev map_at : List (K × X) → List ℕ → Option X
    map_at entries q = lookup (finds q) entries

    entry_step : (key : K) (v : X) (e : K × X) (es rest : List (K × X)) (q : List ℕ) (o : Ordering) → order key e.0 ≡ o
        → map_at rest q ≡ cond (bytes_eq q (bytes key)) (Some v) (map_at es q)
        → map_at (match_ordering o ((key, v) ∷ e ∷ es) ((e.0, v) ∷ es) (e ∷ rest)) q ≡ cond (bytes_eq q (bytes key)) (Some v) (map_at (e ∷ es) q)
    entry_step key v e es rest q Less is h = ap (λ b. cond b (Some v) (map_at (e ∷ es) q)) (is_eq-slice_cmp q (bytes key))
    entry_step key v e es rest q Equal is h =
        let same : finds q e.0 ≡ bytes_eq q (bytes key) = is_eq-slice_cmp q (bytes e.0) ∙ ap (bytes_eq q) (sym (same_bytes (bytes key) (bytes e.0) is)) in
        cond_again (finds q e.0) (Some v) (Some e.1) (map_at es q)
        ∙ ap (λ b. cond b (Some v) (map_at (e ∷ es) q)) same
    entry_step key v e es rest q Greater is h =
        ap (λ o. cond (finds q e.0) (Some e.1) o) h
        ∙ cond_swap (finds q e.0) (bytes_eq q (bytes key)) (Some e.1) (Some v) (map_at es q)
        (λ one other.
        let there : q ≡ bytes e.0 = (bytes_eq-Decides q (bytes e.0)).0 (sym (is_eq-slice_cmp q (bytes e.0)) ∙ one) in
        let here : q ≡ bytes key = (bytes_eq-Decides q (bytes key)).0 other in
        let tied : is_eq (order key e.0) ≡ true = is_eq-slice_cmp (bytes key) (bytes e.0) ∙ (bytes_eq-Decides (bytes key) (bytes e.0)).1 (sym here ∙ there) in
        let untied : is_eq (order key e.0) ≡ false = ap is_eq is in
        cc)

    pub one_entry_more : (entries : List (K × X)) (key : K) (v : X) (q : List ℕ)
        → map_at (insert_entry order entries key v) q ≡ cond (bytes_eq q (bytes key)) (Some v) (map_at entries q)
    one_entry_more [] key v q = ap (λ b. cond b (Some v) (map_at [] q)) (is_eq-slice_cmp q (bytes key))
    one_entry_more (e ∷ es) key v q = entry_step key v e es (insert_entry order es key v) q (order key e.0) refl (one_entry_more es key v q)

    -- the same names with their bytes
    abbrev pub listed : List (K × X) → List (List ℕ × X)
    listed entries = map (λ entry. (bytes entry.0, entry.1)) entries

    pub found : (entries : List (K × X)) (q : List ℕ) → map_at entries q ≡ lookup (bytes_eq q) (listed entries)
    found [] q = refl
    found (e ∷ es) q =
        ap (λ b. cond b (Some e.1) (map_at es q)) (is_eq-slice_cmp q (bytes e.0))
        ∙ ap (λ o. cond (bytes_eq q (bytes e.0)) (Some e.1) o) (found es q)

    pub found_more : (entries after : List (K × X)) (key : K) (name : List ℕ) (v : X) → after ≡ insert_entry order entries key v → bytes key ≡ name
        → (q : List ℕ) → lookup (bytes_eq q) (listed after) ≡ cond (bytes_eq q name) (Some v) (lookup (bytes_eq q) (listed entries))
    found_more entries after key name v is named q =
        sym (found after q) ∙ ap (λ es. map_at es q) is ∙ one_entry_more entries key v q
        ∙ ap (λ n. cond (bytes_eq q n) (Some v) (map_at entries q)) named
        ∙ ap (λ o. cond (bytes_eq q name) (Some v) o) (found entries q)
