use Rattle.json_members.proofs.AppendLemmas.{one, then}
use Rattle.live_windows.proofs.live.write_nobody.Goals as goal

pub returns : goal.returns
returns c = then (one c.in_ok-begin_object.ensures) (then (one c.in_ok-key.ensures) (then (one c.in_ok-begin_array.ensures) (then (one c.in_ok-end_array.ensures) (one c.end_object.ensures))))
