use Rattle.parts_tests.proofs.clocks.stamps_are_drawn_one_by_one.Given as goal

abbrev pub ghosts-one_by_one : goal.ghosts-one_by_one
ghosts-one_by_one g a = record { clock = a.start }
