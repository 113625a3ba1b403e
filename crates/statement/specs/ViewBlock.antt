-- View blocks: what one is, its bytes, and which fault shows first in others.
use Rattle.std.specs.Prelude.{◌≡◌, ℕ, ◌^◌, ◌<◌, ◌==◌, List, ◌∷◌, ◌++◌, length}
use Rattle.std.specs.Int.{w64, to_be_bytes}
use Rattle.nim_base.specs.declared.form_fault.FormFault.{FormFault}
use Rattle.nim_base.specs.declared.form_fault.FormFault.TheVariants.{Kind}
use Rattle.statement.specs.declared.view_block.ViewBlock.{ViewBlock}
use Rattle.statement.specs.FormFault.{IsCut, ShowsBehindByte, ShowsUnless, ShowsInWhole}

-- digests of 32 bytes and a number of eight, which each view block of the code has by its type
pub record IsViewBlock (block : ViewBlock) : Type 0 where
  pub prev : length block.prev ≡ 32
  pub config : length block.config ≡ 32
  pub number : block.number < 2 ^ 64

-- the kind, 11 in hexadecimal, prev(32), config digest(32), number(8)
abbrev pub view_block_bytes : ViewBlock → List ℕ
view_block_bytes block = 0x11 ∷ block.prev ++ block.config ++ to_be_bytes w64 block.number

-- where a view block is to begin
abbrev pub ViewBlockBegins : List ℕ → FormFault → Type 0
ViewBlockBegins = ShowsBehindByte (λ kind. ShowsUnless (kind == 0x11) Kind (IsCut 72))

-- in bytes that are to be a view block, and no more
abbrev pub ViewBlockShows : List ℕ → FormFault → Type 0
ViewBlockShows = ShowsInWhole IsViewBlock view_block_bytes ViewBlockBegins
