use Rattle.season_competitions.proofs.cups.judge_by_rows.Goals as goal

pub returns : goal.returns
returns c = rw c.in-Cup.is (rw (← c.as_slice.ensures) (rw (← c.as_slice-in-Cup.ensures) c.judge_draw.ensures))
