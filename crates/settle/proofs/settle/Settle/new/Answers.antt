use Rattle.std.proofs.Common.{◌+◌, ℕ, List, [], inl, refl, sym, ◌∙◌, ap, subst}
use Rattle.chain_block.specs.declared.meta_block.MetaBlock.{MetaBlock}
use Rattle.view_ledger.specs.Views.{newest_tail, newest_config}
use Rattle.op_parts.specs.RoundSound.{Sound as SoundRound}
use Rattle.op_parts.specs.Walk.{Place, block_tail}
use Rattle.settle.specs.Settling.{Settling, asking, last_block}
use Rattle.settle.proofs.settle.Settle.new.Goals as goal

place : List ℕ → ℕ → List MetaBlock → Place
place tail height blocks = record { tail = tail; height = height; blocks = blocks }

pub returns-clause-sound : goal.returns-clause-sound
unfolding place
returns-clause-sound c accepts configs =
    let block : MetaBlock = c.args.block.now in
    let settling : Settling = record { handle = c.args.handle.now; block = block; configs = configs } in record {
      handle = refl;
      at = record {
        calls = [];
        before = [];
        split = refl;
        sound = subst (λ (l : List MetaBlock). SoundRound accepts (asking settling (last_block block l)) c.new-2.result []) (sym c.new.ensures.items)
            (c.new-2.ensures.sound accepts (newest_tail configs) (newest_config configs));
        began = inl (
          ap (λ (t : List ℕ). place t (block.height + 1) c.new.result.items) c.tail.ensures ∙ ap (λ (l : List MetaBlock). place (block_tail block) (block.height + 1) l) c.new.ensures.items,
          refl,
        );
      };
    }
