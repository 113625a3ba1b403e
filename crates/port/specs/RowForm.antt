-- The bytes of a row, and which fault shows first in others.
use Rattle.std.specs.Prelude.{◌≡◌, ℕ, List, ◌∷◌, ◌++◌}
use Rattle.nim_base.specs.declared.form_fault.FormFault.{FormFault}
use Rattle.chain_block.specs.declared.entry.Entry.{Entry}
use Rattle.chain_block.specs.declared.meta_block.MetaBlock.{MetaBlock}
use Rattle.chain_block.specs.Entry.{IsWellFormed, bare, entry_bytes}
use Rattle.chain_block.specs.Bytes.{metablock_bytes}
use Rattle.chain_block.specs.MetaBlock.{IsMetaBlock}
use Rattle.statement.specs.FormFault.{ShowsBehind, ShowsInWhole}
use Rattle.port.specs.Row.{Content}
use Rattle.port.specs.Field.{FieldBegins, sized, SizedBegins, ShowsBehindKind}

-- an entry within its limits and with fields of their lengths, that has no room behind its payload
abbrev pub IsStored : Entry → Type 0
IsStored entry = IsWellFormed entry × (bare entry ≡ entry)

-- digests of 32 bytes and a height of eight
abbrev pub IsBlock : MetaBlock → Type 0
IsBlock block = IsMetaBlock block.prev block.entry block.height

abbrev pub block_bytes : MetaBlock → List ℕ
block_bytes block = metablock_bytes block.prev block.entry block.height

-- what each row of the code is by its type
pub record IsRow (row : Content) : Type 0 where
  pub entry : IsStored row.entry
  pub metablock : IsBlock row.metablock

-- the kind, 50 in hexadecimal, the number of the entry's bytes(4), the entry, and the metablock(73)
abbrev pub row_bytes : Content → List ℕ
row_bytes row = 0x50 ∷ sized entry_bytes row.entry ++ block_bytes row.metablock

-- where a row is to begin
abbrev pub RowBegins : List ℕ → FormFault → Type 0
RowBegins = ShowsBehindKind 0x50 (ShowsBehind IsStored (sized entry_bytes) (SizedBegins IsStored entry_bytes) (λ _. FieldBegins IsBlock block_bytes 73))

-- in bytes that are to be a row, and no more
abbrev pub RowShows : List ℕ → FormFault → Type 0
RowShows = ShowsInWhole IsRow row_bytes RowBegins
