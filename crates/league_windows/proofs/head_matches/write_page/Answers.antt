use Rattle.json_members.proofs.AppendLemmas.{one, then}
use Rattle.league_windows.proofs.head_matches.write_page.Goals as goal

pub returns-clause-value : goal.returns-clause-value
returns-clause-value g c = λ entries are.
    then (one c.in_ok-begin_object.ensures) (then c.in_ok-write_truth.ensures (then c.in_ok-write_count.ensures (then (one c.in_ok-key.ensures)
    (then (c.in_ok-write_matches.ensures.value entries are) (one c.end_object.ensures)))))
