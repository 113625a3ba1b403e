use Rattle.parts_tests.proofs.cells.stamps_run_out.Given as goal

abbrev pub ghosts-ask : goal.ghosts-ask
ghosts-ask g a = record { clock = a.start }
