-- What the table has for an active endorser that is asked for its newest row, or to append the next one.
use Rattle.std.proofs.Common.{◌≡◌, ◌⊎◌, inl, inr, ℕ, ◌+◌, ◌<◌, Bool, true, false, List, length, eqb, refl, sym, subst, ap, arith}
use Rattle.std.specs.Prelude.{if◌then◌else◌, bytes_eq, not, ◌==◌, ◌&&◌, nat_lt, ◌^◌}
use Rattle.std.proofs.lemmas.Bool.{cases_Bool, eqb-true, le-ltb}
use Rattle.std.proofs.lemmas.Slice.Eq.{bytes_eq-Decides}
use Rattle.chain_block.specs.declared.meta_block.MetaBlock.{MetaBlock}
use Rattle.tail_map.specs.declared.tail_row.TailRow.{TailRow}
use Rattle.tail_map.specs.TailMap.{set, has_handle}
use Rattle.statement.specs.declared.member.Member.{Member}
use Rattle.port.specs.Answer.{Full}
use Rattle.port.specs.Table.{View, Active, Cell, refuses, signs_held, appends, cell}
use Rattle.catch_up.specs.OwnCalls.{append_of}
use Rattle.calm.specs.Appending.{IsNext, HasRoom, IsFull, row_of}

-- a test that fails leaves the other side
pass : {X : Type 0} (b : Bool) (x y z : X) → b ≡ false → y ≡ z → (if b then x else y) ≡ z
pass true x y z e is = absurd cc
pass false x y z e is = is

take_it : {X : Type 0} (b : Bool) (x y : X) → b ≡ true → (if b then x else y) ≡ x
take_it true x y e = refl
take_it false x y e = absurd cc

not_below : (n : ℕ) → nat_lt n n ≡ false
not_below n = le-ltb n n (omega arith)

same_tail : (tail : List ℕ) → not (bytes_eq tail tail) ≡ false
same_tail tail = ap not ((bytes_eq-Decides tail tail).1 refl)

is_genesis : (height : ℕ) (entry handle : List ℕ) → (height ≡ 0 → entry ≡ handle) → ((height == 0) && not (bytes_eq entry handle)) ≡ false
is_genesis height entry handle first =
    elim (cases_Bool (eqb height 0)) [
      | inl zero_height ↦
          let same : bytes_eq entry handle ≡ true = (bytes_eq-Decides entry handle).1 (first (eqb-true height 0 zero_height)) in
          rw (zero_height, same) refl
      | inr other ↦ rw other refl
    ]

is_low : (height : ℕ) → height < 2 ^ 32 → (height == 2 ^ 32) ≡ false
is_low height low =
    elim (cases_Bool (eqb height (2 ^ 32))) [
      | inl top ↦ let same : height ≡ 2 ^ 32 = eqb-true height (2 ^ 32) top in absurd (omega arith)
      | inr other ↦ other
    ]

fits : (has : Bool) (rows : List TailRow) → (has ≡ true) ⊎ (length rows < 4096) → (not has && (length rows == 4096)) ≡ false
fits true rows room = refl
fits false rows (inl never) = absurd cc
fits false rows (inr few) =
    elim (cases_Bool (eqb (length rows) 4096)) [
      | inl top ↦ let same : length rows ≡ 4096 = eqb-true (length rows) 4096 top in absurd (omega arith)
      | inr other ↦ other
    ]

is_full : (has : Bool) (rows : List TailRow) → has ≡ false → length rows ≡ 4096 → (not has && (length rows == 4096)) ≡ true
is_full has rows none full = rw (none, full) refl

module _ (me : Member) (own : View) (handle : List ℕ) (block : MetaBlock) (next : IsNext own.map handle block) where
  -- the tests before the last one
  reaches : (z : Cell)
      → (if not (has_handle own.map handle) && (length own.map == 4096) then refuses (Active own) Full
      else signs_held own (record own { map = set own.map (row_of handle block) }) handle (row_of handle block).tail (block.height + 1)) ≡ z
      → cell me (Active own) (append_of handle block) ≡ z
  reaches z is =
      subst (λ (r : List ℕ × ℕ). appends own handle block.prev block.entry block.height r.0 r.1 ≡ z) (sym next.held)
      (pass _ _ _ z (not_below block.height) (pass _ _ _ z (not_below block.height) (pass _ _ _ z (same_tail block.prev)
      (pass _ _ _ z (is_genesis block.height block.entry handle next.first) (pass _ _ _ z (is_low block.height next.low) is)))))

  pub signs_next : HasRoom own.map handle
      → cell me (Active own) (append_of handle block) ≡ signs_held own (record own { map = set own.map (row_of handle block) }) handle (row_of handle block).tail (block.height + 1)
  signs_next room = reaches _ (pass _ _ _ _ (fits (has_handle own.map handle) own.map room) refl)

  pub refuses_next : IsFull own.map handle → cell me (Active own) (append_of handle block) ≡ refuses (Active own) Full
  refuses_next full = reaches _ (take_it _ _ _ (is_full (has_handle own.map handle) own.map full.0 full.1))
