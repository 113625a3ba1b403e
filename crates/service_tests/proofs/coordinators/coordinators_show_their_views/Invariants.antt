use Rattle.service_tests.proofs.coordinators.coordinators_show_their_views.Given as goal

abbrev pub ghosts-views : goal.ghosts-views
ghosts-views g a = record { clock = a.start }
