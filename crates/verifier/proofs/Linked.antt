-- The test of links, and links.
use Rattle.std.proofs.Common.{◌≡◌, ℕ, ◌+◌, List, [], ◌∷◌, Bool, true, false, ◌&&◌, eqb, refl, sym}
use Rattle.std.specs.Str.{bytes_eq}
use Rattle.std.proofs.lemmas.Bool.{eqb-true, eq-eqb, and_parts}
use Rattle.std.proofs.lemmas.Slice.Eq.{bytes_eq-Decides}
use Rattle.chain_block.specs.declared.meta_block.MetaBlock.{MetaBlock}
use Rattle.chain_block.specs.Tail.{tail_after}
use Rattle.chain_block.specs.Links.{Links}
use Rattle.verifier.specs.Outcomes.{are_linked}

pub linked : (blocks : List MetaBlock) (prev : List ℕ) (count : ℕ) (to : List ℕ) → are_linked blocks prev count to ≡ true → Links blocks prev count to
unfolding are_linked
linked [] prev count to e = (bytes_eq-Decides prev to).0 e
linked (block ∷ blocks) prev count to e =
    let p = and_parts (eqb block.height count) (bytes_eq block.prev prev && are_linked blocks (tail_after block.prev block.entry block.height) (count + 1) to) e in
    let q = and_parts (bytes_eq block.prev prev) (are_linked blocks (tail_after block.prev block.entry block.height) (count + 1) to) p.1 in
    (eqb-true block.height count p.0, (bytes_eq-Decides block.prev prev).0 q.0, linked blocks (tail_after block.prev block.entry block.height) (count + 1) to q.1)

pub linked-true : (blocks : List MetaBlock) (prev : List ℕ) (count : ℕ) (to : List ℕ) → Links blocks prev count to → are_linked blocks prev count to ≡ true
unfolding are_linked
linked-true [] prev count to e = (bytes_eq-Decides prev to).1 e
linked-true (block ∷ blocks) prev count to l =
    rw (eq-eqb block.height count l.0, (bytes_eq-Decides block.prev prev).1 l.1) (linked-true blocks (tail_after block.prev block.entry block.height) (count + 1) to l.2)

pub same_test : (result : Bool) (blocks : List MetaBlock) (prev : List ℕ) (count : ℕ) (to : List ℕ) → (result ≡ true → Links blocks prev count to) → (Links blocks prev count to → result ≡ true) → result ≡ are_linked blocks prev count to
same_test true blocks prev count to says back = sym (linked-true blocks prev count to (says refl))
same_test false blocks prev count to says back = by_test (are_linked blocks prev count to) refl
  where
    by_test : (b : Bool) → are_linked blocks prev count to ≡ b → false ≡ b
    by_test false e = refl
    by_test true e = back (linked blocks prev count to e)
