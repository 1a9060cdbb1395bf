use Rattle.json_members.proofs.AppendLemmas.{one, then}
use Rattle.league_windows.proofs.pages.begin_page.Goals as goal

pub returns : goal.returns
returns c = then (one c.in_ok-begin_object.ensures) (then c.in_ok-write_truth.ensures (then c.in_ok-write_count.ensures (one c.key.ensures)))
