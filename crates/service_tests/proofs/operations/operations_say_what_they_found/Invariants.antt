use Rattle.service_tests.proofs.operations.operations_say_what_they_found.Given as goal

abbrev pub ghosts-run : goal.ghosts-run
ghosts-run g a = record { clock = a.start }
