use Rattle.json_members.proofs.AppendLemmas.{one, then}
use Rattle.league_windows.proofs.transfers.write_transfer.Goals as goal

pub returns : goal.returns
returns c =
    rw (c.from.ensures, c.get.ensures.value, c.from-2.ensures, c.get-2.ensures.value, c.from-3.ensures, c.get-3.ensures.value, c.from-4.ensures, c.get-4.ensures.value, c.from-5.ensures, c.get-5.ensures.value, c.from-6.ensures) at
    (then (one c.in_ok-begin_object.ensures) (then c.in_ok-write_count.ensures (then c.in_ok-write_count-2.ensures (then c.in_ok-write_count-3.ensures
    (then c.in_ok-write_count-4.ensures (then c.in_ok-write_count-5.ensures (then c.in_ok-write_count-6.ensures (one c.end_object.ensures))))))))
