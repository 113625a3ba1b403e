-- Where a walk has come.
use Rattle.std.proofs.Common.{◌≡◌, ℕ, ◌+◌, List, [], ◌∷◌, ◌++◌, length, refl, sym, ap, subst, ◌∙◌, arith}
use Rattle.chain_block.specs.declared.meta_block.MetaBlock.{MetaBlock}
use Rattle.chain_block.specs.Tail.{tail_after}
use Rattle.chain_block.specs.Links.{Links}
use Rattle.statement.specs.declared.member.Member.{Member}
use Rattle.port.specs.Store.{PutNew, Get, Attach, WasPut, WasGot, WasAttached}
use Rattle.port.specs.Trace.{Event, AtStore, AtLink}
use Rattle.view_ledger.specs.Receipts.{Accepts}
use Rattle.op_parts.specs.Walk.{Place, block_tail, above}
use Rattle.op_parts.specs.WalkSound.{Walked}

longer : (blocks : List MetaBlock) (block : MetaBlock) → length (blocks ++ block ∷ []) ≡ length blocks + 1
longer [] block = refl
longer (first ∷ blocks) block = let e = longer blocks block in omega (arith, e)

links_push : (blocks : List MetaBlock) (block : MetaBlock) (prev to : List ℕ) (count : ℕ) → Links blocks prev count to → block.prev ≡ to → block.height ≡ count + length blocks
    → Links (blocks ++ block ∷ []) prev count (block_tail block)
links_push [] block prev to count links on at = (omega (arith, at), on ∙ sym links, refl)
links_push (first ∷ blocks) block prev to count links on at =
    (links.0, links.1, links_push blocks block (tail_after first.prev first.entry first.height) to (count + 1) links.2 on (omega (arith, at)))

-- the height and the blocks of a place
abbrev IsBelow : Place → Place → Type 0
IsBelow from to = (to.height ≡ from.height + length to.blocks) × Links to.blocks from.tail from.height to.tail

module _ (accepts : Accepts) (configs : List (List Member)) (handle : List ℕ) (from : Place) (fresh : from.blocks ≡ []) where
  begin : IsBelow from from
  begin = (let e = ap (λ (l : List MetaBlock). length l) fresh in omega (arith, e), subst (λ (l : List MetaBlock). Links l from.tail from.height from.tail) (sym fresh) refl)

  pub below : (to : Place) (events : List Event) → Walked accepts configs handle from events to → IsBelow from to
  below to [] walked = subst (λ (p : Place). IsBelow from p) (sym walked) begin
  below to (AtStore (Get key) (WasGot got) ∷ past) (before, walked, at, (stored, row, gave, next, bare, goes)) =
      let past_is = below before past walked in
      let h : before.height ≡ from.height + length before.blocks = past_is.0 in
      let n : length (before.blocks ++ row.metablock ∷ []) ≡ length before.blocks + 1 = longer before.blocks row.metablock in
      let b : row.metablock.height ≡ before.height = next.good.at.block_height in
      let up : IsBelow from (above before row.metablock) =
      (omega (arith, h, n), links_push before.blocks row.metablock from.tail before.tail from.height past_is.1 next.links (b ∙ h)) in
      subst (λ (p : Place). IsBelow from p) (sym goes) up
  below to (AtStore (Get key) (WasPut put) ∷ past) walked = absurd walked
  below to (AtStore (Get key) (WasAttached attached) ∷ past) walked = absurd walked
  below to (AtStore (PutNew key body) answer ∷ past) walked = absurd walked
  below to (AtStore (Attach key bytes) answer ∷ past) walked = absurd walked
  below to (AtLink id call heard ∷ past) walked = absurd walked
