use Rattle.json_members.proofs.AppendLemmas.{one, then}
use Rattle.entry_windows.proofs.writing.write_gameweek.Goals as goal

pub returns : goal.returns
returns c =
    then (one c.in_ok-begin_object.ensures) (then c.in_ok-write_chip.ensures (then (one c.in_ok-key.ensures) (then c.in_ok-write_substitutions.ensures
    (then (one c.in_ok-key-2.ensures) (then c.in_ok-write_row.ensures (then (one c.in_ok-key-3.ensures) (then c.in_ok-write_players.ensures
    (one c.end_object.ensures))))))))
