use Rattle.league_windows.proofs.sides.write_match_points.Goals as goal

pub returns : goal.returns
returns c = rw (c.match_points.ensures) at c.write_count.ensures
