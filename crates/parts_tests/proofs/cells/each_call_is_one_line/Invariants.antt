use Rattle.parts_tests.proofs.cells.each_call_is_one_line.Given as goal

abbrev pub ghosts-ask : goal.ghosts-ask
ghosts-ask g a = record { clock = a.start }
