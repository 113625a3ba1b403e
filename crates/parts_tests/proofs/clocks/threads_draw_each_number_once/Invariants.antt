use Rattle.parts_tests.proofs.clocks.threads_draw_each_number_once.Given as goal

abbrev pub ghosts-draw_at_once : goal.ghosts-draw_at_once
ghosts-draw_at_once g a = record { clock = a.start }
