use Rattle.fpl_trials.proofs.keepers.ended.Given as goal

abbrev pub ghosts-ran : goal.ghosts-ran
ghosts-ran a = record { name = a.blank.name; parts = a.blank.parts }
