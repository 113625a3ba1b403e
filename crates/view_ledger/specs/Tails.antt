-- Tails of chains, and the newest view that has one.
use Rattle.std.proofs.Common.{◌≡◌, ℕ, zero, suc, ◌-◌, ◌<◌, List, [], ◌∷◌, ◌++◌, length, map, replicate, cond, Some, inl, inr, refl, sym, ap, ◌∙◌, arith}
use Rattle.std.specs.Str.{bytes_eq}
use Rattle.std.proofs.lemmas.Bool.{cases_Bool}
use Rattle.std.proofs.lemmas.List.{length-map, map-append}
use Rattle.std.proofs.lemmas.Slice.Eq.{bytes_eq-Decides}
use Rattle.statement.specs.declared.member.Member.{Member}
use Rattle.sha2.specs.Sha256.{sha256}
use Rattle.statement.specs.declared.view_block.ViewBlock.{ViewBlock}
use Rattle.statement.specs.ViewBlock.{view_block_bytes}
use Rattle.statement.specs.ViewTail.{view_tail_after, view_tail_of_list, view_tail_of_list-none, view_tail_of_list-push}
use Rattle.view_ledger.specs.Views.{config_digest, newest_tail, tail_at, newest_below, next_block}

pub newest_tail-none : newest_tail [] ≡ replicate 32 0
unfolding newest_tail
newest_tail-none = view_tail_of_list-none

pub newest_tail-push : (configs : List (List Member)) (next : List Member) → newest_tail (configs ++ next ∷ []) ≡ view_tail_after (newest_tail configs) (config_digest next) (length configs)
unfolding newest_tail
newest_tail-push configs next =
    ap view_tail_of_list (map-append config_digest configs (next ∷ []))
    ∙ view_tail_of_list-push (map config_digest configs) (config_digest next)
    ∙ ap (view_tail_after (view_tail_of_list (map config_digest configs)) (config_digest next)) (length-map configs config_digest)

-- one view less
pub newest_below-step : (configs : List (List Member)) (tail : List ℕ) (number : ℕ) → 0 < number
    → newest_below configs tail number ≡ cond (bytes_eq (tail_at configs (number - 1)) tail) (Some (number - 1)) (newest_below configs tail (number - 1))
unfolding newest_below
newest_below-step configs tail zero some = absurd (omega arith)
newest_below-step configs tail (suc n) some =
    let k : suc n - 1 ≡ n = omega arith in rw k refl

pub newest_below-found : (configs : List (List Member)) (tail : List ℕ) (n number : ℕ) → newest_below configs tail n ≡ Some number → (number < n) × (tail_at configs number ≡ tail)
unfolding newest_below
newest_below-found configs tail zero number e = absurd cc
newest_below-found configs tail (suc n) number e =
    elim (cases_Bool (bytes_eq (tail_at configs n) tail)) [
      | inl same ↦
          let here : Some n ≡ Some number = rw same at e in
          let is : n ≡ number = cc in
          (omega arith, ap (tail_at configs) (sym is) ∙ (bytes_eq-Decides (tail_at configs n) tail).0 same)
      | inr other ↦
          let rest : newest_below configs tail n ≡ Some number = rw other at e in
          let p = newest_below-found configs tail n number rest in (omega (arith, p.0), p.1)
    ]

-- the tail of the block that makes a config the next view
pub tail_by : (configs : List (List Member)) (next : List Member) (block : ViewBlock) (tail : List ℕ) → tail ≡ sha256 (view_block_bytes block) → block ≡ next_block configs next → tail ≡ newest_tail (configs ++ next ∷ [])
tail_by configs next block tail digest is = digest ∙ ap (λ (b : ViewBlock). sha256 (view_block_bytes b)) is ∙ sym (newest_tail-push configs next)
