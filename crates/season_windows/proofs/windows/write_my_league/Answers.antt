use Rattle.json_members.proofs.AppendLemmas.{one, then}
use Rattle.season_windows.proofs.windows.write_my_league.Goals as goal

pub returns : goal.returns
returns c =
    rw (c.code_text.ensures, c.code.ensures) at
    (then (one c.in_ok-begin_object.ensures) (then c.in_ok-write_text.ensures (then c.in_ok-write_league_members.ensures (one c.end_object.ensures))))
