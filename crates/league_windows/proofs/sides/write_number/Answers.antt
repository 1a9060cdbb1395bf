use Rattle.league_windows.proofs.sides.write_number.Goals as goal

pub returns : goal.returns
returns c = rw (c.number_of.ensures) at c.write_count_or_null.ensures
