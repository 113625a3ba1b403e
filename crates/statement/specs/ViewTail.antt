-- The tail of a view, by the digests of all configs up to its own.
use Rattle.std.specs.Prelude.{◌≡◌, ℕ, List, [], ◌∷◌, ◌++◌, length, replicate, reverse, refl}
use Rattle.std.proofs.Common.{ap, ◌∙◌}
use Rattle.std.proofs.lemmas.List.{reverse-append, length-reverse}
use Rattle.sha2.specs.Sha256.{sha256}
use Rattle.statement.specs.ViewBlock.{view_block_bytes}

-- the tail of the view that has this config and this number, above a tail
abbrev pub view_tail_after : List ℕ → List ℕ → ℕ → List ℕ
view_tail_after prev config number = sha256 (view_block_bytes (record { prev = prev; config = config; number = number }))

-- the tail of these digests of configs, the newest first: 32 zeros where there is none
abbrev pub view_tail_of_newest_first : List (List ℕ) → List ℕ
view_tail_of_newest_first [] = replicate 32 0
view_tail_of_newest_first (config ∷ older) = view_tail_after (view_tail_of_newest_first older) config (length older)

-- the tail of these digests of configs, the oldest first
unfoldable pub view_tail_of_list : List (List ℕ) → List ℕ
view_tail_of_list configs = view_tail_of_newest_first (reverse configs)

pub view_tail_of_list-none : view_tail_of_list [] ≡ replicate 32 0
unfolding view_tail_of_list
view_tail_of_list-none = refl

pub view_tail_of_list-push : (configs : List (List ℕ)) (config : List ℕ) → view_tail_of_list (configs ++ config ∷ []) ≡ view_tail_after (view_tail_of_list configs) config (length configs)
unfolding view_tail_of_list
view_tail_of_list-push configs config =
    ap view_tail_of_newest_first (reverse-append configs (config ∷ []))
    ∙ ap (λ number. view_tail_after (view_tail_of_newest_first (reverse configs)) config number) (length-reverse configs)
