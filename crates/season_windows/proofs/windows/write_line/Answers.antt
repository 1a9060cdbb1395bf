use Rattle.json_members.proofs.AppendLemmas.{one, then}
use Rattle.season_windows.proofs.windows.write_line.Goals as goal

pub returns : goal.returns
returns c =
    rw (c.from.ensures, c.get.ensures.value) at
    (then (one c.in_ok-begin_object.ensures) (then (one c.in_ok-key.ensures) (then c.in_ok-write_figures.ensures (then c.in_ok-write_count.ensures
    (one c.end_object.ensures)))))
