use Rattle.json_members.proofs.AppendLemmas.{one, then}
use Rattle.league_windows.proofs.pages.write_new_entries.Goals as goal

pub returns : goal.returns
returns c =
    then (one c.in_ok-key.ensures) (then (one c.in_ok-begin_object.ensures) (then c.in_ok-write_truth.ensures (then c.in_ok-write_count.ensures
    (then c.in_ok-write_no_list.ensures (one c.end_object.ensures)))))
