-- Metablocks that lead from one tail to another.
use Rattle.std.specs.Prelude.{◌≡◌, ℕ, ◌+◌, List, [], ◌∷◌}
use Rattle.chain_block.specs.declared.meta_block.MetaBlock.{MetaBlock}
use Rattle.chain_block.specs.Tail.{tail_after}

-- Heights rise by one from count on. Each block stands on the tail that the blocks before it lead to from prev,
-- and all of them lead to `to`.
abbrev pub Links : List MetaBlock → List ℕ → ℕ → List ℕ → Type 0
Links [] prev count to = prev ≡ to
Links (block ∷ blocks) prev count to =
    (block.height ≡ count) × (block.prev ≡ prev) × Links blocks (tail_after block.prev block.entry block.height) (count + 1) to
