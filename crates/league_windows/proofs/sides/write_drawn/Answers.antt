use Rattle.league_windows.proofs.sides.write_drawn.Goals as goal

pub returns : goal.returns
returns c = rw (c.drawn.ensures) at c.write_count.ensures
