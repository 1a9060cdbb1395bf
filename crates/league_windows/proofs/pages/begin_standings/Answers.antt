use Rattle.json_members.proofs.AppendLemmas.{one, then}
use Rattle.league_windows.proofs.pages.begin_standings.Goals as goal

pub returns : goal.returns
returns c =
    then (one c.in_ok-begin_object.ensures) (then c.in_ok-write_league.ensures (then c.in_ok-write_new_entries.ensures
    (then (one c.in_ok-key.ensures) c.begin_page.ensures)))
