use Rattle.json_members.proofs.AppendLemmas.{one, then}
use Rattle.live_windows.proofs.players.write_players.Goals as goal

pub returns : goal.returns
returns g c = then (one c.in_ok-begin_object.ensures) (then (one c.in_ok-key.ensures) (then c.in_ok-write_elements.ensures (one c.end_object.ensures)))
