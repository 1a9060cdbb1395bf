use Rattle.json_members.proofs.AppendLemmas.{one, then}
use Rattle.live_windows.proofs.players.write_line.Goals as goal

pub returns : goal.returns
returns c =
    rw (c.from.ensures, c.get.ensures.value) at
    (then (one c.in_ok-begin_object.ensures) (then c.in_ok-write_count.ensures (then (one c.in_ok-key.ensures) (then c.in_ok-write_items.ensures (one c.end_object.ensures)))))
