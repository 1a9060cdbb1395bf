use Rattle.fpl_run.proofs.here.run_here.Given as goal

abbrev pub ghosts-counted : goal.ghosts-counted
ghosts-counted a b = record { name = b.blank.name; parts = b.blank.parts }
