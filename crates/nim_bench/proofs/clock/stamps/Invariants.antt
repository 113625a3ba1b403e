use Rattle.nim_bench.proofs.clock.stamps.Given as goal

abbrev pub ghosts-stamps_of : goal.ghosts-stamps_of
ghosts-stamps_of g a = record { clock = a.start }
