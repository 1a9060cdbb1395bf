use Rattle.json_members.proofs.AppendLemmas.{one, then}
use Rattle.season_windows.proofs.windows.write_cup.Goals as goal

pub returns : goal.returns
returns c =
    rw (c.from.ensures, c.get.ensures.value, c.as_slice.ensures, c.from-2.ensures, c.get-2.ensures.value) at
    (then (one c.in_ok-begin_object.ensures) (then c.in_ok-write_count.ensures (then c.in_ok-write_count-2.ensures (then c.in_ok-write_count-3.ensures
    (one c.end_object.ensures)))))
