use Rattle.parts_tests.proofs.cells.threads_share_a_cell.Given as goal

abbrev pub ghosts-call_at_once : goal.ghosts-call_at_once
ghosts-call_at_once g a = record { clock = a.start }
