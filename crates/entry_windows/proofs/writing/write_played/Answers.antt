use Rattle.json_members.proofs.AppendLemmas.{one, then}
use Rattle.entry_windows.proofs.writing.write_played.Goals as goal

pub returns : goal.returns
returns c =
    rw (c.from.ensures, c.get.ensures.value) at
    (then (one c.in_ok-begin_object.ensures) (then c.in_ok-write_count.ensures (then c.in_ok-write_text.ensures (one c.end_object.ensures))))
