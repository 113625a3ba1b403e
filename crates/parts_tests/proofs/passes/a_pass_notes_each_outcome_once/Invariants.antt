use Rattle.parts_tests.proofs.passes.a_pass_notes_each_outcome_once.Given as goal

abbrev pub ghosts-take_each : goal.ghosts-take_each
ghosts-take_each g a = record { clock = a.start }
