-- The reader of view blocks.
use Rattle.std.proofs.Common.{◌^◌, ◌++◌, refl, append_assoc, arith}
use Rattle.std.specs.Int.{w64, to_be_bytes}
use Rattle.statement.specs.ViewBlock.{IsViewBlock, view_block_bytes, ViewBlockBegins}
use Rattle.statement.specs.Reading.{view_block_at}
use Rattle.statement.proofs.Fields.{wide64}
use Rattle.statement.proofs.Readers.{IsReader, made, fixed, pair_field, bytes_field, number_field}
use Rattle.statement.proofs.Wholes.{kinded}

pub view_block_reader : IsReader view_block_at IsViewBlock view_block_bytes ViewBlockBegins
unfolding view_block_at
view_block_reader =
    kinded 0x11 (omega arith) _ IsViewBlock (λ block. block.prev ++ block.config ++ to_be_bytes w64 block.number) _
    (made _ _ _ _ (λ x. record { prev = x.0; config = x.1.0; number = x.1.1 }) (λ block. (block.prev, (block.config, block.number))) IsViewBlock (λ block. block.prev ++ block.config ++ to_be_bytes w64 block.number)
    (λ x good. (record { prev = good.0; config = good.1.0; number = good.1.1 }, append_assoc x.0 x.1.0 (to_be_bytes w64 x.1.1)))
    (λ block good. ((good.prev, (good.config, good.number)), refl, append_assoc block.prev block.config (to_be_bytes w64 block.number)))
    (fixed 72 _ _ _ (pair_field 32 40 _ _ _ _ _ _ (bytes_field 32) (pair_field 32 8 _ _ _ _ _ _ (bytes_field 32) (number_field w64 (2 ^ 64) wide64)))))
