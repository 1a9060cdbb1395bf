use Rattle.json_members.proofs.AppendLemmas.{then}
use Rattle.league_windows.proofs.sides.write_place.Goals as goal

pub returns : goal.returns
returns c =
    rw (c.from.ensures, c.from-2.ensures, c.from-3.ensures, c.from-4.ensures, c.get.ensures.value) at
    (then c.in_ok-write_count.ensures (then c.in_ok-write_count-2.ensures (then c.in_ok-write_truth.ensures (then c.in_ok-write_truth-2.ensures
    (then c.in_ok-write_count-3.ensures c.write_nothing.ensures)))))
