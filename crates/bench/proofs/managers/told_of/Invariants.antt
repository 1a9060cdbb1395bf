use Rattle.bench.proofs.managers.told_of.Given as goal

abbrev pub ghosts-ran : goal.ghosts-ran
ghosts-ran a = record { name = a.blank.name; parts = a.blank.parts }
