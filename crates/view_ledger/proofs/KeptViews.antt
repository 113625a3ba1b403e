-- Views that are kept with their tails.
use Rattle.std.proofs.Common.{◌≡◌, ℕ, ◌+◌, ◌-◌, ◌<◌, ◌≤◌, List, [], ◌∷◌, ◌++◌, length, map, get_or, take, Bool, true, false, cond, Some, None, inl, inr, sym, ap, ◌∙◌, subst, arith}
use Rattle.std.specs.List.{AllByRecursion}
use Rattle.std.specs.Str.{bytes_eq}
use Rattle.std.proofs.lemmas.Bool.{lt-ltb, cases_lt}
use Rattle.std.proofs.lemmas.List.{length-map, map-append, get_or-map, get_or_append_left, take-append-le, take_all, length-append}
use Rattle.std.proofs.Math.Seq.{get_or-append_seam}
use Rattle.std.proofs.lemmas.List.Elements.{All-from_recursion}
use Rattle.std.proofs.lemmas.Slice.Eq.{bytes_eq-Decides}
use Rattle.statement.specs.declared.member.Member.{Member}
use Rattle.statement.specs.declared.statement.Statement.TheVariants.{Final}
use Rattle.statement.specs.Statement.{statement_bytes}
use Rattle.port.specs.View.{FinalMark}
use Rattle.view_ledger.specs.declared.view.View.{View}
use Rattle.view_ledger.specs.Views.{newest_tail, tail_at, tail_of_view, config_at, newest_config, newest_below}
use Rattle.view_ledger.specs.Receipts.{Accepts}
use Rattle.view_ledger.specs.Extension.{AreGenuine, final_bytes, finals_fault}
use Rattle.view_ledger.specs.Kept.{config_of, HaveTails, AreViews}
use Rattle.view_ledger.specs.Tails.{newest_below-step}

-- the view before the last so many, as a search from the newest comes to it
module _ (views : List View) (have : HaveTails views) (number : ℕ) (other : View) (some : 0 < number) (within : number ≤ length views) (tail : List ℕ) where
  tail_is : (get_or views (number - 1) other).tail ≡ tail_at (map config_of views) (number - 1)
  tail_is = have.each (number - 1) other (omega arith)

  step : (b : Bool) → bytes_eq (get_or views (number - 1) other).tail tail ≡ b → newest_below (map config_of views) tail number ≡ cond b (Some (number - 1)) (newest_below (map config_of views) tail (number - 1))
  step b e =
      newest_below-step (map config_of views) tail number some
      ∙ ap (λ t. cond (bytes_eq t tail) (Some (number - 1)) (newest_below (map config_of views) tail (number - 1))) (sym tail_is)
      ∙ ap (λ (t : Bool). cond t (Some (number - 1)) (newest_below (map config_of views) tail (number - 1))) e

  pub step_hit : bytes_eq (get_or views (number - 1) other).tail tail ≡ true → newest_below (map config_of views) tail number ≡ Some (number - 1)
  step_hit e = step true e

  pub step_miss : bytes_eq (get_or views (number - 1) other).tail tail ≡ false → newest_below (map config_of views) tail number ≡ newest_below (map config_of views) tail (number - 1)
  step_miss e = step false e

  pub has_tail : bytes_eq (get_or views (number - 1) other).tail tail ≡ true → tail_of_view (map config_of views) (number - 1) ≡ Some tail
  has_tail e =
      let same : tail_at (map config_of views) (number - 1) ≡ tail = sym tail_is ∙ (bytes_eq-Decides (get_or views (number - 1) other).tail tail).0 e in
      let below : number - 1 < length (map config_of views) = omega (arith, length-map views config_of) in
      rw (lt-ltb (number - 1) (length (map config_of views)) below) (ap (λ (t : List ℕ). Some t) same)

-- the newest view
module _ (views : List View) (have : HaveTails views) (other : View) (some : 0 < length views) where
  pub newest_tail_is : (get_or views (length views - 1) other).tail ≡ newest_tail (map config_of views)
  newest_tail_is =
      have.each (length views - 1) other (omega arith)
      ∙ ap newest_tail (take_all (length views - 1 + 1) (map config_of views) (omega (arith, length-map views config_of)))

  pub newest_config_is : (get_or views (length views - 1) other).config ≡ newest_config (map config_of views)
  newest_config_is =
      sym (get_or-map config_of views (length views - 1) other [] (omega arith))
      ∙ ap (λ n. get_or (map config_of views) (n - 1) []) (sym (length-map views config_of))

  -- what the finals are judged by
  pub fault_is : (accepts : Accepts) (config : List Member) (next : List ℕ) (finals : List FinalMark) → next ≡ newest_tail (map config_of views ++ config ∷ [])
      → finals_fault accepts (get_or views (length views - 1) other).config (λ m. statement_bytes (Final (get_or views (length views - 1) other).tail next m)) finals ≡ finals_fault accepts (newest_config (map config_of views)) (final_bytes (map config_of views) config) finals
  fault_is accepts config next finals next_is =
      ap (λ (c : List Member). finals_fault accepts c (λ m. statement_bytes (Final (get_or views (length views - 1) other).tail next m)) finals) newest_config_is
      ∙ ap (λ (t : List ℕ). finals_fault accepts (newest_config (map config_of views)) (λ m. statement_bytes (Final t next m)) finals) newest_tail_is
      ∙ ap (λ (n : List ℕ). finals_fault accepts (newest_config (map config_of views)) (λ m. statement_bytes (Final (newest_tail (map config_of views)) n m)) finals) next_is

pub config_is : (views : List View) (n : ℕ) (other : View) → n < length views → (get_or views n other).config ≡ config_at (map config_of views) n
config_is views n other below = sym (get_or-map config_of views n other [] below)

-- one view more
module _ (views : List View) (next : View) (have : HaveTails views) (own : next.tail ≡ newest_tail (map config_of views ++ next.config ∷ [])) where
  configs_more : map config_of (views ++ next ∷ []) ≡ map config_of views ++ next.config ∷ []
  configs_more = map-append config_of views (next ∷ [])

  more_at : (n : ℕ) (other : View) → n < length (views ++ next ∷ []) → (get_or (views ++ next ∷ []) n other).tail ≡ newest_tail (take (n + 1) (map config_of views ++ next.config ∷ []))
  more_at n other below =
      elim (cases_lt n (length views)) [
        | inl lt ↦
            ap (λ (v : View). v.tail) (get_or_append_left views (next ∷ []) other n lt)
            ∙ have.each n other lt
            ∙ ap newest_tail (sym (take-append-le (n + 1) (map config_of views) (next.config ∷ []) (omega (arith, length-map views config_of))))
        | inr le ↦
            let last : n ≡ length views = omega (arith, length-append views (next ∷ [])) in
            ap (λ k. (get_or (views ++ next ∷ []) k other).tail) last
            ∙ ap (λ (v : View). v.tail) (get_or-append_seam views next [] other)
            ∙ own
            ∙ ap newest_tail (sym (take_all (n + 1) (map config_of views ++ next.config ∷ []) (omega (arith, length-map views config_of, length-append (map config_of views) (next.config ∷ [])))))
      ]

  pub tails_more : HaveTails (views ++ next ∷ [])
  tails_more = record { each = λ n other below. more_at n other below ∙ ap (λ (cs : List (List Member)). newest_tail (take (n + 1) cs)) (sym configs_more) }

all_push : {X : Type 0} (P : X → Type 0) (xs : List X) (x : X) → AllByRecursion P xs → P x → AllByRecursion P (xs ++ x ∷ [])
all_push P [] x all one = (one, tt)
all_push P (y ∷ ys) x all one = (all.0, all_push P ys x all.1 one)

pub views_more : (roster : List Member) (views : List View) (next : View) → AreViews roster views → next.tail ≡ newest_tail (map config_of views ++ next.config ∷ []) → AreGenuine roster next.config → AreViews roster (views ++ next ∷ [])
views_more roster views next are own genuine =
    record {
      some = omega (arith, length-append views (next ∷ []), are.some);
      tails = tails_more views next are.tails own;
      genuine = subst (λ (cs : List (List Member)). AllByRecursion (AreGenuine roster) cs) (sym (map-append config_of views (next ∷ []))) (all_push (AreGenuine roster) (map config_of views) next.config are.genuine genuine);
    }

pub views_none : HaveTails []
views_none = record { each = λ n other below. absurd (omega arith) }

pub genuine_at : (roster : List Member) (views : List View) (n : ℕ) (other : View) → AreViews roster views → n < length views → AreGenuine roster (get_or views n other).config
genuine_at roster views n other are below =
    let at : AreGenuine roster (get_or (map config_of views) n []) = All-from_recursion (AreGenuine roster) (map config_of views) are.genuine n [] (omega (arith, length-map views config_of)) in
    subst (λ (c : List Member). AreGenuine roster c) (sym (config_is views n other below)) at

pub none_below : (configs : List (List Member)) (tail : List ℕ) (n : ℕ) → n ≡ 0 → newest_below configs tail n ≡ None
unfolding newest_below
none_below configs tail n none = ap (newest_below configs tail) none

pub first_of_views : (roster : List Member) (view : View) → view.tail ≡ newest_tail (view.config ∷ []) → AreGenuine roster view.config → AreViews roster (view ∷ [])
first_of_views roster view own genuine = record { some = omega arith; tails = tails_more [] view views_none own; genuine = (genuine, tt) }
