use Rattle.service_tests.proofs.coordinators.operations_run_by_hand_over_a_coordinator.Given as goal

abbrev pub ghosts-by_hand : goal.ghosts-by_hand
ghosts-by_hand g a = record { clock = a.start }
