use Rattle.std.proofs.Common.{◌≡◌, rules, arith, subst, sym, ◌∙◌, drop, [], List, true, not}
use Rattle.std.specs.Str.{bytes_eq}
use Rattle.std.proofs.lemmas.Bool.{false≢true}
use Rattle.std.proofs.lemmas.List.{drop_all}
use Rattle.std.proofs.lemmas.Slice.Eq.{bytes_eq-Decides}
use Rattle.chain_block.specs.declared.meta_block.MetaBlock.{MetaBlock}
use Rattle.chain_block.specs.Links.{Links}
use Rattle.chain_block.proofs.LinksSteps.{first, one_more, one_less}
use Rattle.chain_block.proofs.meta_block.links.Goals as goal
use Rattle.chain_block.proofs.meta_block.links.Goals.{then-block-height-via-then-block-height, then-block-height-via-else-block-height+then-ne}

pub returns-then-block-height : goal.returns-then-block-height
returns-then-block-height c = (
  λ e. absurd (false≢true e),
  λ linked.
      let fits = first c.args.blocks.now c.loop-block.block-index c.block-item.result c.loop-block-test.true c.block-item.is c.loop-block.tail c.loop-block.height c.args.to.now (c.loop-block.invariant.rest linked) in
      elim c.then-block-height.branch [
        | then-block-height-via-then-block-height w ↦ absurd (w.if-block-height.true fits.0)
        | then-block-height-via-else-block-height+then-ne w ↦
            let same : bytes_eq c.block-item.result.prev c.loop-block.tail ≡ true = (bytes_eq-Decides c.block-item.result.prev c.loop-block.tail).1 fits.1 in
            let other : true ≡ not (bytes_eq c.block-item.result.prev c.loop-block.tail) = w.if-ne.ensures in
            absurd cc
      ],
)

pub loop-block-preserved : goal.loop-block-preserved
loop-block-preserved c =
    let prev_is : c.block-item.result.prev ≡ c.loop-block.tail = search rules in
    record {
      height = omega arith;
      whole = λ linked. c.loop-block.invariant.whole (one_more c.args.blocks.now c.loop-block.block-index c.block-item.result c.loop-block-test.true c.block-item.is c.loop-block.tail c.loop-block.height c.args.to.now c.tail-tail.result c.tail-tail.ensures c.if-block-height.false prev_is linked);
      rest = λ linked. one_less c.args.blocks.now c.loop-block.block-index c.block-item.result c.loop-block-test.true c.block-item.is c.loop-block.tail c.loop-block.height c.args.to.now c.tail-tail.result c.tail-tail.ensures (c.loop-block.invariant.rest linked);
    }

pub returns : goal.returns
returns c =
    let none : drop c.loop-block.block-index c.args.blocks.now ≡ [] = drop_all c.loop-block.block-index c.args.blocks.now (omega arith) in
    let same = bytes_eq-Decides c.loop-block.tail c.args.to.now in (
      λ e. c.loop-block.invariant.whole (subst (λ (bs : List MetaBlock). Links bs c.loop-block.tail c.loop-block.height c.args.to.now) (sym none) (same.0 (sym c.eq.ensures ∙ e))),
      λ linked. c.eq.ensures ∙ same.1 (subst (λ (bs : List MetaBlock). Links bs c.loop-block.tail c.loop-block.height c.args.to.now) none (c.loop-block.invariant.rest linked)),
    )
