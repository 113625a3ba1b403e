-- Good rows: which bytes a store may give for the row of a ledger at a height.
use Rattle.std.specs.Prelude.{◌≡◌, ℕ, List}
use Rattle.chain_block.specs.Entry.{entry_digest, handle_of, height_of}
use Rattle.port.specs.Row.{Content}
use Rattle.port.specs.RowForm.{IsRow, row_bytes}

-- the entry is of this ledger and height, and the metablock is of this entry and height
pub record IsRowAt (handle : List ℕ) (height : ℕ) (row : Content) : Type 0 where
  pub of_ledger : handle_of row.entry ≡ handle
  pub of_height : height_of row.entry ≡ height
  pub of_entry : row.metablock.entry ≡ entry_digest row.entry
  pub block_height : row.metablock.height ≡ height

-- the bytes are those of this row, which is the ledger's at the height
pub record IsGoodRow (handle : List ℕ) (height : ℕ) (bytes : List ℕ) (row : Content) : Type 0 where
  pub whole : IsRow row
  pub written : bytes ≡ row_bytes row
  pub at : IsRowAt handle height row

-- the bytes are those of no such row
abbrev pub IsBadRow : List ℕ → ℕ → List ℕ → Type 0
IsBadRow handle height bytes = (row : Content) → IsGoodRow handle height bytes row → ⊥
