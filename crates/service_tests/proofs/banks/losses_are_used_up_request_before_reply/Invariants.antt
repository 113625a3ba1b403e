use Rattle.service_tests.proofs.banks.losses_are_used_up_request_before_reply.Given as goal

abbrev pub ghosts-run : goal.ghosts-run
ghosts-run g a = record { clock = a.start }
