use Rattle.json_members.proofs.AppendLemmas.{one, then}
use Rattle.league_windows.proofs.cup_window.write_cup.Goals as goal

pub returns-clause-value : goal.returns-clause-value
returns-clause-value g c = λ entries are.
    rw (c.from.ensures, c.get.ensures.value, c.from-2.ensures, c.get-2.ensures.value) at
    (then (one c.in_ok-begin_object.ensures) (then c.in_ok-write_count.ensures (then (one c.in_ok-key.ensures) (then (c.in_ok-write_rounds.ensures.value entries are)
    (then c.in_ok-write_count-2.ensures (one c.end_object.ensures))))))
