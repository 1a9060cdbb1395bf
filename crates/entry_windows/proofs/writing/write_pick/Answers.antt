use Rattle.json_members.proofs.AppendLemmas.{one, then}
use Rattle.entry_windows.proofs.writing.write_pick.Goals as goal

pub returns : goal.returns
returns c =
    rw (c.from.ensures, c.get.ensures.value, c.from-2.ensures, c.multiplier.ensures, c.from-3.ensures) at
    (then (one c.in_ok-begin_object.ensures) (then c.in_ok-write_count.ensures (then c.in_ok-write_truth.ensures (then c.in_ok-write_truth-2.ensures
    (then c.in_ok-write_count-2.ensures (then c.in_ok-write_count-3.ensures (one c.end_object.ensures)))))))
