use Rattle.service_tests.proofs.geneses.view_0_is_set_up_by_a_quorum.Given as goal

abbrev pub ghosts-ends : goal.ghosts-ends
ghosts-ends g a = record { clock = a.start }
