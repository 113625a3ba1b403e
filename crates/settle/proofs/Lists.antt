-- Calls among others, and the last of some metablocks.
use Rattle.std.proofs.Common.{◌≡◌, ◌⊎◌, inl, inr, ℕ, suc, ◌+◌, ◌-◌, ◌≤◌, ◌<◌, nat_lt, Bool, true, false, List, [], ◌∷◌, ◌++◌, length, slice_get, Option, Some, refl, sym, ◌∙◌, subst, ap, arith}
use Rattle.std.specs.Prelude.{unwrap_or}
use Rattle.std.specs.List.{AllByRecursion}
use Rattle.chain_block.specs.declared.meta_block.MetaBlock.{MetaBlock}
use Rattle.chain_block.specs.Tail.{tail_after}
use Rattle.chain_block.specs.Links.{Links}
use Rattle.port.specs.Trace.{Event, Had}
use Rattle.op_parts.specs.Walk.{block_tail}
use Rattle.settle.specs.Settling.{last_block}

-- these calls are among those
abbrev pub Within : List Event → List Event → Type 0
Within some all = (event : Event) → Had some event → Had all event

pub later : (a b : List Event) → Within b (a ++ b)
later [] b event had = had
later (first ∷ a) b event had = inr (later a b event had)

pub newer : (a b : List Event) → Within a (a ++ b)
newer [] b event had = absurd had
newer (first ∷ a) b event (inl is) = inl is
newer (first ∷ a) b event (inr had) = inr (newer a b event had)

pub older : (first : Event) (rest : List Event) → Within rest (first ∷ rest)
older first rest event had = inr had

pub parts : (a b : List Event) (event : Event) → Had (a ++ b) event → Had a event ⊎ Had b event
parts [] b event had = inr had
parts (first ∷ a) b event (inl is) = inl (inl is)
parts (first ∷ a) b event (inr had) = sorted (parts a b event had)
  where
    sorted : Had a event ⊎ Had b event → Had (first ∷ a) event ⊎ Had b event
    sorted (inl h) = inl (inr h)
    sorted (inr h) = inr h

pub all_more : {X : Type 0} (P Q : X → Type 0) → ((x : X) → P x → Q x) → (xs : List X) → AllByRecursion P xs → AllByRecursion Q xs
all_more P Q more [] all = tt
all_more P Q more (x ∷ xs) all = (more x all.0, all_more P Q more xs all.1)

pub all_and : {X : Type 0} (P : X → Type 0) (xs : List X) (x : X) → AllByRecursion P xs → P x → AllByRecursion P (xs ++ x ∷ [])
all_and P [] x all is = (is, tt)
all_and P (first ∷ xs) x all is = (all.0, all_and P xs x all.1 is)

-- one number is below the other, or not
pub order : (a b : ℕ) → (a < b) ⊎ (b ≤ a)
order a b = by (nat_lt a b) refl
  where
    by : (less : Bool) → nat_lt a b ≡ less → (a < b) ⊎ (b ≤ a)
    by true is = inl (grind (arith, is))
    by false is = inr (grind (arith, is))

pub longer : (blocks : List MetaBlock) (block : MetaBlock) → length (blocks ++ block ∷ []) ≡ length blocks + 1
longer [] block = refl
longer (first ∷ blocks) block = let e = longer blocks block in omega (arith, e)

pub links_push : (blocks : List MetaBlock) (block : MetaBlock) (prev to : List ℕ) (count : ℕ) → Links blocks prev count to → block.prev ≡ to → block.height ≡ count + length blocks
    → Links (blocks ++ block ∷ []) prev count (block_tail block)
links_push [] block prev to count links on at = (omega (arith, at), on ∙ sym links, refl)
links_push (first ∷ blocks) block prev to count links on at =
    (links.0, links.1, links_push blocks block (tail_after first.prev first.entry first.height) to (count + 1) links.2 on (omega (arith, at)))

pub last_pushed : (below : MetaBlock) (blocks : List MetaBlock) (block : MetaBlock) → last_block below (blocks ++ block ∷ []) ≡ block
last_pushed below [] block = refl
last_pushed below (next ∷ blocks) block = last_pushed next blocks block

pub last_at : (below : MetaBlock) (blocks : List MetaBlock) (block : MetaBlock) → slice_get blocks (length blocks - 1) ≡ Some block → last_block below blocks ≡ block
last_at below [] block is = absurd (cc is)
last_at below (next ∷ []) block is = ap (λ (o : Option MetaBlock). unwrap_or o next) is
last_at below (next ∷ (more ∷ blocks)) block is =
    let place : length (next ∷ (more ∷ blocks)) - 1 ≡ suc (length (more ∷ blocks) - 1) = omega arith in
    last_at next (more ∷ blocks) block (subst (λ (n : ℕ). slice_get (next ∷ (more ∷ blocks)) n ≡ Some block) place is)

-- some metablock is the last
pub some_last : (blocks : List MetaBlock) (block : MetaBlock) → slice_get blocks (length blocks - 1) ≡ Some block → 1 ≤ length blocks
some_last [] block is = absurd (cc is)
some_last (next ∷ blocks) block is = omega arith

-- the tail and the height to which metablocks lead are those of the last
pub last_linked : (blocks : List MetaBlock) (below : MetaBlock) (to : List ℕ) → Links blocks (block_tail below) (below.height + 1) to
    → (to ≡ block_tail (last_block below blocks)) × ((last_block below blocks).height + 1 ≡ below.height + 1 + length blocks)
last_linked [] below to links = (sym links, omega arith)
last_linked (next ∷ blocks) below to links =
    let at : next.height ≡ below.height + 1 = links.0 in
    let rest = last_linked blocks next to (subst (λ (n : ℕ). Links blocks (block_tail next) (n + 1) to) (sym at) links.2) in
    (rest.0, omega (arith, at, rest.1))
