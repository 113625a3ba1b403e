use Rattle.std.proofs.Common.{◌≡◌, ◌+◌, drop}
use Rattle.chain_block.specs.Links.{Links}
use Rattle.chain_block.proofs.meta_block.links.Given as goal

abbrev pub invariant-loop-block : goal.invariant-loop-block
invariant-loop-block l = record {
  height : l.height ≡ l.count + l.block-index;
  whole : Links (drop l.block-index l.blocks) l.tail l.height l.to → Links l.blocks l.prev l.count l.to;
  rest : Links l.blocks l.prev l.count l.to → Links (drop l.block-index l.blocks) l.tail l.height l.to;
}
