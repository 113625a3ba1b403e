use Rattle.service_tests.proofs.coordinators.coordinators_answer_whole_calls.Given as goal

abbrev pub ghosts-run : goal.ghosts-run
ghosts-run g a = record { clock = a.start }
