use Rattle.json_members.proofs.AppendLemmas.{one, then}
use Rattle.entry_windows.proofs.Appending.{appended}
use Rattle.entry_windows.proofs.leagues.write_leagues.Goals as goal

pub returns-clause-value : goal.returns-clause-value
returns-clause-value g c = λ entries are.
    let whole = then (one c.in_ok-begin_object.ensures) (then (one c.in_ok-key.ensures) (then (appended {a = c.key.new.self} {b = c.write_of_kind.new.out} (c.in_ok-write_of_kind.ensures.value entries are))
    (then (one c.in_ok-key-2.ensures) (then (appended {a = c.key-2.new.self} {b = c.write_of_kind-2.new.out} (c.in_ok-write_of_kind-2.ensures.value entries are)) (one c.in_ok-end_object.ensures))))) in
    (whole.tokens, whole.before)
