use Rattle.league_windows.proofs.sides.write_won.Goals as goal

pub returns : goal.returns
returns c = rw (c.won.ensures) at c.write_count.ensures
