-- Two views with one tail have blocks with one digest.
use Rattle.std.proofs.Common.{◌≡◌, ◌≢◌, ℕ, zero, suc, ◌+◌, ◌^◌, ◌<◌, List, [], length, take, sym, ap, ◌∙◌, arith}
use Rattle.std.proofs.lemmas.List.{length-take-le, take_more}
use Rattle.sha2.proofs.Facts256.{length-sha256}
use Rattle.sha2.specs.Sha256.{sha256}
use Rattle.statement.specs.declared.member.Member.{Member}
use Rattle.statement.specs.declared.view_block.ViewBlock.{ViewBlock}
use Rattle.statement.specs.ViewBlock.{IsViewBlock, view_block_bytes}
use Rattle.view_ledger.specs.Views.{newest_tail, tail_at, config_at}
use Rattle.view_ledger.specs.Numbered.{block_at}
use Rattle.view_ledger.specs.Tails.{newest_tail-none, newest_tail-push}

-- the law of the blocks' bytes
abbrev pub OwnBytes : Type 0
OwnBytes = (a b : ViewBlock) → IsViewBlock a → IsViewBlock b → view_block_bytes a ≡ view_block_bytes b → a ≡ b

module _ (configs : List (List Member)) where
  tail_is : (n : ℕ) → n < length configs → tail_at configs n ≡ sha256 (view_block_bytes (block_at configs n))
  tail_is n below = ap newest_tail (take_more configs n [] below) ∙ newest_tail-push (take n configs) (config_at configs n)

  prev_length : (n : ℕ) → n < length configs → length (newest_tail (take n configs)) ≡ 32
  prev_length zero below = ap (λ (t : List ℕ). length t) newest_tail-none
  prev_length (suc n) below =
      let k : suc n ≡ n + 1 = omega arith in
      ap (λ (m : ℕ). length (newest_tail (take m configs))) k ∙ ap (λ (t : List ℕ). length t) (tail_is n (omega (arith, below))) ∙ length-sha256 _

  number_is : (n : ℕ) → n < length configs → (block_at configs n).number ≡ n
  number_is n below = length-take-le n configs (omega (arith, below))

  is_block : (n : ℕ) → length configs < 2 ^ 64 → n < length configs → IsViewBlock (block_at configs n)
  is_block n within below = record { prev = prev_length n below; config = length-sha256 _; number = omega (arith, number_is n below, below, within) }

  pub collide : OwnBytes → (one other : ℕ) → length configs < 2 ^ 64 → one < length configs → other < length configs → one ≢ other → tail_at configs one ≡ tail_at configs other
      → (a b : List ℕ) × (a ≢ b) × (sha256 a ≡ sha256 b)
  collide own one other within below within_other differ same = (
    view_block_bytes (block_at configs one),
    view_block_bytes (block_at configs other),
    (λ e.
        let blocks = own (block_at configs one) (block_at configs other) (is_block one within below) (is_block other within within_other) e in
        differ (sym (number_is one below) ∙ ap (λ (b : ViewBlock). b.number) blocks ∙ number_is other within_other)),
    sym (tail_is one below) ∙ same ∙ tail_is other within_other,
  )
