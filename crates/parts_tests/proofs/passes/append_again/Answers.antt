use Rattle.parts_tests.proofs.passes.append_again.Goals as goal

pub append-good-requires : goal.append-good-requires
append-good-requires g c = (_, c.append-bad.ensures _ c.in_ok-draw.ensures.for_entry)

pub append-again-requires : goal.append-again-requires
append-again-requires g c = (_, c.append-good.ensures _ (c.append-bad.ensures _ c.in_ok-draw.ensures.for_entry))
