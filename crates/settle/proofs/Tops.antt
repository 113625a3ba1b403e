-- The row at the top.
use Rattle.std.proofs.Common.{◌≡◌, inl, inr, ℕ, ◌+◌, List, [], ◌∷◌, length, refl, sym, ◌∙◌, subst, ap, arith}
use Rattle.std.specs.List.{AllByRecursion}
use Rattle.chain_block.specs.declared.meta_block.MetaBlock.{MetaBlock}
use Rattle.chain_block.specs.Links.{Links}
use Rattle.port.specs.declared.key.Key.{Key}
use Rattle.port.specs.declared.store_answers.Got.{Got}
use Rattle.port.specs.declared.store_answers.Got.TheVariants as gots
use Rattle.port.specs.Cause.{MemberCause}
use Rattle.port.specs.GoodRow.{IsGoodRow}
use Rattle.port.specs.Row.{Content}
use Rattle.port.specs.Stored.{Stored}
use Rattle.port.specs.Store.{PutNew, Get, Attach, WasPut, WasGot, WasAttached}
use Rattle.port.specs.Trace.{Event, AtStore, AtLink, Had}
use Rattle.view_ledger.specs.Receipts.{Accepts}
use Rattle.op_parts.specs.Walk.{Place, block_tail}
use Rattle.op_parts.specs.WalkSound.{Walked}
use Rattle.settle.specs.Settling.{Settling, start, top_block}
use Rattle.settle.specs.Sound.{HasWalked, IsBefore, got_at}
use Rattle.settle.specs.Says.{IsRowGiven}
use Rattle.settle.proofs.Lists.{Within, newer, all_and, last_linked}
use Rattle.settle.proofs.LowerLaws.{Laws}

-- the metablocks lead up to the place
pub record IsTop (settling : Settling) (place : Place) : Type 0 where
  pub links : Links place.blocks (block_tail settling.block) (settling.block.height + 1) place.tail
  pub height : place.height ≡ settling.block.height + 1 + length place.blocks

pub at_start : (settling : Settling) → IsTop settling (start settling)
at_start settling = record { links = refl; height = omega arith }

pub top_tail : (settling : Settling) (place : Place) → IsTop settling place → place.tail ≡ block_tail (top_block settling place)
top_tail settling place top = (last_linked place.blocks settling.block place.tail top.links).0

pub top_height : (settling : Settling) (place : Place) → IsTop settling place → place.height ≡ (top_block settling place).height + 1
top_height settling place top = let e = (last_linked place.blocks settling.block place.tail top.links).1 in omega (arith, e, top.height)

same_place : (a b : Place) → a.tail ≡ b.tail → a.height ≡ b.height → a.blocks ≡ b.blocks → a ≡ b
same_place a b tail height blocks =
    let one : a ≡ record { tail = b.tail; height = a.height; blocks = a.blocks } = ap (λ (t : List ℕ). record { tail = t; height = a.height; blocks = a.blocks }) tail in
    let two : record { tail = b.tail; height = a.height; blocks = a.blocks } ≡ record { tail = b.tail; height = b.height; blocks = a.blocks } =
    ap (λ (h : ℕ). let p : Place = record { tail = b.tail; height = h; blocks = a.blocks } in p) height in
    let three : record { tail = b.tail; height = b.height; blocks = a.blocks } ≡ b = ap (λ (l : List MetaBlock). let p : Place = record { tail = b.tail; height = b.height; blocks = l } in p) blocks in
    one ∙ two ∙ three

-- without metablocks above the row, the place is right above it
pub no_blocks : (settling : Settling) (place : Place) → IsTop settling place → place.blocks ≡ [] → place ≡ start settling
no_blocks settling place top none =
    let links : Links [] (block_tail settling.block) (settling.block.height + 1) place.tail =
    subst (λ (l : List MetaBlock). Links l (block_tail settling.block) (settling.block.height + 1) place.tail) none top.links in
    let few : length place.blocks ≡ 0 = ap (λ (l : List MetaBlock). length l) none in
    same_place place (start settling) (sym links) (omega (arith, top.height, few)) none

module _ (laws : Laws) (accepts : Accepts) (settling : Settling) where
  pub walked_top : (causes : List (ℕ × MemberCause)) (place : Place) (past : List Event) → HasWalked accepts settling causes place past → IsTop settling place
  walked_top causes place past so_far = record {
    links = laws.links accepts settling.configs settling.handle (start settling) place so_far.walk refl so_far.walked;
    height = laws.heights accepts settling.configs settling.handle (start settling) place so_far.walk refl so_far.walked;
  }

  pub before_top : (place : Place) (past : List Event) → IsBefore accepts settling place past → IsTop settling place
  before_top place past (inl begun) = subst (λ (p : Place). IsTop settling p) (sym begun.0) (at_start settling)
  before_top place past (inr reached) = walked_top reached.causes place reached.looked.0 reached.looked.2

  -- the row that a call gave
  pub given_row : (events : List Event) (place : Place) (stored : Stored) (row : Content) → Had events (got_at settling place.height (gots.Some stored))
      → IsGoodRow settling.handle place.height stored.body row → IsRowGiven settling events row.metablock
  given_row events place stored row had good =
      let at : place.height ≡ row.metablock.height = sym good.at.block_height in (
        stored,
        row,
        subst (λ (h : ℕ). Had events (got_at settling h (gots.Some stored))) at had,
        subst (λ (h : ℕ). IsGoodRow settling.handle h stored.body row) at good,
        refl,
      )

  -- each metablock of a walk is of a row that the store gave
  pub walked_rows : (all events : List Event) (place : Place) → Within events all → Walked accepts settling.configs settling.handle (start settling) events place
      → AllByRecursion (IsRowGiven settling all) place.blocks
  walked_rows all [] place within walked = subst (λ (p : Place). AllByRecursion (IsRowGiven settling all) p.blocks) (sym walked) tt
  walked_rows all (AtStore (Get key) (WasGot got) ∷ past) place within (before, walked, at, (stored, row, gave, next, bare, goes)) =
      let event : AtStore (Get key) (WasGot got) ≡ got_at settling before.height (gots.Some stored) =
      ap (λ (k : Key). AtStore (Get k) (WasGot got)) at ∙ ap (λ (g : Got). got_at settling before.height g) gave in
      let had : Had all (got_at settling before.height (gots.Some stored)) = within (got_at settling before.height (gots.Some stored)) (inl event) in
      subst (λ (p : Place). AllByRecursion (IsRowGiven settling all) p.blocks) (sym goes)
      (all_and (IsRowGiven settling all) before.blocks row.metablock (walked_rows all past before (λ e h. within e (inr h)) walked)
      (given_row all before stored row had next.good))
  walked_rows all (AtStore (Get key) (WasPut put) ∷ past) place within walked = absurd walked
  walked_rows all (AtStore (Get key) (WasAttached attached) ∷ past) place within walked = absurd walked
  walked_rows all (AtStore (PutNew key body) answer ∷ past) place within walked = absurd walked
  walked_rows all (AtStore (Attach key bytes) answer ∷ past) place within walked = absurd walked
  walked_rows all (AtLink id call heard ∷ past) place within walked = absurd walked

  pub has_walked_rows : (all : List Event) (causes : List (ℕ × MemberCause)) (place : Place) (past : List Event) → Within past all
      → HasWalked accepts settling causes place past → AllByRecursion (IsRowGiven settling all) place.blocks
  has_walked_rows all causes place past within so_far =
      walked_rows all so_far.walk place
      (λ event had. within event (subst (λ (p : List Event). Had p event) (sym so_far.split) (newer so_far.walk so_far.first event had))) so_far.walked

  looked_within : (all before past : List Event) (event : Event) → past ≡ event ∷ before → Within past all → Within before all
  looked_within all before past event is within e had = within e (subst (λ (p : List Event). Had p e) (sym is) (inr had))

  pub before_rows : (all : List Event) (place : Place) (past : List Event) → Within past all → IsBefore accepts settling place past
      → AllByRecursion (IsRowGiven settling all) place.blocks
  before_rows all place past within (inl begun) = subst (λ (p : Place). AllByRecursion (IsRowGiven settling all) p.blocks) (sym begun.0) tt
  before_rows all place past within (inr reached) =
      has_walked_rows all reached.causes place reached.looked.0 (looked_within all reached.looked.0 past (got_at settling place.height gots.None) reached.looked.1 within) reached.looked.2
