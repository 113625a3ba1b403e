-- The newest of the views of a calm service.
use Rattle.std.proofs.Common.{◌≡◌, ℕ, suc, ◌+◌, ◌-◌, ◌<◌, List, [], ◌∷◌, ◌++◌, length, take, Some, refl, sym, ap, ◌∙◌, arith}
use Rattle.std.proofs.Math.Seq.{take-suc, take-length}
use Rattle.std.proofs.lemmas.Slice.Eq.{bytes_eq-Decides}
use Rattle.sha2.specs.Sha256.{sha256}
use Rattle.statement.specs.declared.member.Member.{Member}
use Rattle.statement.specs.ViewBlock.{view_block_bytes}
use Rattle.view_ledger.specs.Views.{newest_tail, newest_config, tail_at, number_of}
use Rattle.view_ledger.specs.Tails.{newest_tail-push, newest_below-step}
use Rattle.calm.specs.Calm.{newest_block}

abbrev pub older : List (List Member) → List (List Member)
older configs = take (length configs - 1) configs

pub split_newest : (configs : List (List Member)) → 0 < length configs → configs ≡ older configs ++ newest_config configs ∷ []
split_newest configs some =
    let last : suc (length configs - 1) ≡ length configs = omega (arith, some) in
    sym (take-length configs) ∙ ap (λ (n : ℕ). take n configs) (sym last) ∙ take-suc configs (length configs - 1) [] (omega (arith, some))

-- its tail is the digest of its block
pub tail_is : (configs : List (List Member)) → 0 < length configs → newest_tail configs ≡ sha256 (view_block_bytes (newest_block configs))
tail_is configs some = ap newest_tail (split_newest configs some) ∙ newest_tail-push (older configs) (newest_config configs)

pub tail_at_newest : (configs : List (List Member)) → 0 < length configs → tail_at configs (length configs - 1) ≡ newest_tail configs
tail_at_newest configs some =
    let n : length configs - 1 + 1 ≡ length configs = omega (arith, some) in
    ap (λ (k : ℕ). newest_tail (take k configs)) n ∙ ap newest_tail (take-length configs)

-- and the newest view that has it is the newest of all
pub number_is : (configs : List (List Member)) → 0 < length configs → number_of configs (newest_tail configs) ≡ Some (length configs - 1)
number_is configs some =
    newest_below-step configs (newest_tail configs) (length configs) some
    ∙ rw ((bytes_eq-Decides (tail_at configs (length configs - 1)) (newest_tail configs)).1 (tail_at_newest configs some)) refl
