use Rattle.json_members.proofs.AppendLemmas.{then}
use Rattle.league_windows.proofs.sides.write_second.Goals as goal

pub returns : goal.returns
returns c =
    then c.in_ok-write_drawn.ensures (then c.in_ok-write_number.ensures (then c.in_ok-write_lost.ensures (then c.in_ok-write_text.ensures
    (then c.in_ok-write_text-2.ensures (then c.in_ok-write_points.ensures (then c.in_ok-write_match_points.ensures c.write_won.ensures))))))
