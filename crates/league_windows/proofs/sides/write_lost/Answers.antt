use Rattle.league_windows.proofs.sides.write_lost.Goals as goal

pub returns : goal.returns
returns c = rw (c.lost.ensures) at c.write_count.ensures
