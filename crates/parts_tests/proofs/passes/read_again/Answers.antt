use Rattle.parts_tests.proofs.passes.read_again.Goals as goal

pub read-good-requires : goal.read-good-requires
read-good-requires g c = (_, c.read-bad.ensures _ c.in_ok-draw.ensures.for_read)

pub read-again-requires : goal.read-again-requires
read-again-requires g c = (_, c.read-good.ensures _ (c.read-bad.ensures _ c.in_ok-draw.ensures.for_read))
