-- Rows have bytes of their own, and show one fault at most.
use Rattle.std.proofs.Common.{◌≡◌, ℕ, ◌^◌, ◌<◌, List, [], ◌∷◌, ◌++◌, length, refl, sym, ap, ◌∙◌, arith}
use Rattle.std.specs.Int.{w32, w64, to_be_bytes}
use Rattle.std.proofs.lemmas.List.{length-append}
use Rattle.chain_block.specs.declared.entry.Entry.{Entry}
use Rattle.chain_block.specs.declared.entry.Entry.TheVariants.{Genesis, Later}
use Rattle.chain_block.specs.declared.meta_block.MetaBlock.{MetaBlock}
use Rattle.chain_block.specs.Bytes.{metablock_bytes}
use Rattle.chain_block.specs.Entry.{IsWellFormed, SameEntry, bare, entry_bytes}
use Rattle.chain_block.specs.MetaBlock.{IsMetaBlock}
use Rattle.port.specs.Row.{Content}
use Rattle.port.specs.Field.{FieldBegins, sized, SizedBegins}
use Rattle.port.specs.RowForm.{IsStored, IsBlock, block_bytes, IsRow, row_bytes, RowBegins, RowShows}
use Rattle.port.proofs.Forms.{Any, Ended, IsForm, said, held, behind, kinded, field, sized_field, whole, own_bytes}

abbrev pub OwnEntries : Type 0
OwnEntries = (a b : Entry) → IsWellFormed a → IsWellFormed b → entry_bytes a ≡ entry_bytes b → SameEntry a b

abbrev pub OwnBlocks : Type 0
OwnBlocks = (prev prev' entry entry' : List ℕ) (height height' : ℕ) → IsMetaBlock prev entry height → IsMetaBlock prev' entry' height'
    → metablock_bytes prev entry height ≡ metablock_bytes prev' entry' height' → (prev ≡ prev') × (entry ≡ entry') × (height ≡ height')

same_bare : (a b : Entry) → SameEntry a b → bare a ≡ bare b
same_bare (Genesis n p) (Genesis n' p') same = rw (same.0, same.1) refl
same_bare (Genesis n p) (Later h' k' n' p') same = absurd same
same_bare (Later h k n p) (Genesis n' p') same = absurd same
same_bare (Later h k n p) (Later h' k' n' p') same = rw (same.0, same.1, same.2, same.3) refl

small : (entry : Entry) → IsStored entry → length (entry_bytes entry) < 2 ^ 32
small (Genesis n p) ok =
    let size = to_be_bytes w32 (length p.bytes) in omega (arith, length-append ((1 ∷ n) ++ size) p.bytes, length-append (1 ∷ n) size, ok.0.0, ok.0.1)
small (Later h k n p) ok =
    let size = to_be_bytes w32 (length p.bytes) in
    let height = to_be_bytes w64 k in
    omega (arith, length-append ((((2 ∷ h) ++ height) ++ n) ++ size) p.bytes, length-append (((2 ∷ h) ++ height) ++ n) size, length-append ((2 ∷ h) ++ height) n, length-append (2 ∷ h) height, ok.0.0.2, ok.0.1, ok.0.2)

block_size : (block : MetaBlock) → IsBlock block → length (block_bytes block) ≡ 73
block_size block ok = omega (arith, length-append ((0x10 ∷ block.prev) ++ block.entry) (to_be_bytes w64 block.height), length-append (0x10 ∷ block.prev) block.entry, ok.0, ok.1)

abbrev block_of : List ℕ → List ℕ → ℕ → MetaBlock
block_of prev entry height = record { prev = prev; entry = entry; height = height }

abbrev row_of : Entry → MetaBlock → Content
row_of entry block = record { entry = entry; metablock = block }

same_row : (a b : Content) → a.entry ≡ b.entry → a.metablock ≡ b.metablock → a ≡ b
same_row a b e m = ap (λ entry. row_of entry a.metablock) e ∙ ap (λ block. row_of b.entry block) m

module _ (entries : OwnEntries) (blocks : OwnBlocks) where
  own_entry : (a b : Entry) → IsStored a → IsStored b → entry_bytes a ≡ entry_bytes b → a ≡ b
  own_entry a b ok ok' e = sym ok.1 ∙ same_bare a b (entries a b ok.0 ok'.0 e) ∙ ok'.1

  own_block : (a b : MetaBlock) → IsBlock a → IsBlock b → block_bytes a ≡ block_bytes b → a ≡ b
  own_block a b ok ok' e =
      let same = blocks a.prev b.prev a.entry b.entry a.height b.height ok ok' e in
      ap (λ prev. block_of prev a.entry a.height) same.0 ∙ ap (λ entry. block_of b.prev entry a.height) same.1 ∙ ap (λ height. block_of b.prev b.entry height) same.2

  pub row_form : (text : List ℕ) → IsForm Ended IsRow row_bytes RowShows text
  row_form text =
      whole IsRow row_bytes RowBegins text
      (kinded Any 0x50 (omega arith) IsRow (λ row. sized entry_bytes row.entry ++ block_bytes row.metablock) _ text
      (λ fields. said Any (λ row. IsStored row.entry × IsBlock row.metablock) IsRow _ _ fields (λ row good. (good.entry, good.metablock))
      (behind Any IsStored (sized entry_bytes) (SizedBegins IsStored entry_bytes) (λ row. IsBlock row.metablock) (λ row. block_bytes row.metablock) (λ _. FieldBegins IsBlock block_bytes 73) (λ (row : Content). row.entry) fields
      (sized_field IsStored entry_bytes own_entry small fields)
      (λ entry rest good at. held Any _ block_bytes (FieldBegins IsBlock block_bytes 73) rest (λ row. (row.entry ≡ entry) × IsBlock row.metablock) (λ row. row.metablock)
      (λ row holds. (block_size row.metablock holds.1, holds.1)) (λ a b holds_a holds_b same. same_row a b (holds_a.0 ∙ sym holds_b.0) same)
      (field IsBlock block_bytes own_block 73 rest)))))

  pub own_row : (a b : Content) → IsRow a → IsRow b → row_bytes a ≡ row_bytes b → a ≡ b
  own_row = own_bytes IsRow row_bytes RowShows row_form
