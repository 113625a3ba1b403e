use Rattle.nim_bench.proofs.operations.measure.Given as goal

abbrev pub ghosts-timed_appends : goal.ghosts-timed_appends
ghosts-timed_appends g a = record { clock = a.start }
