use Rattle.json_members.proofs.AppendLemmas.{one, then}
use Rattle.season_windows.proofs.windows.write_listed_entry.Goals as goal

pub returns : goal.returns
returns c =
    rw (c.from.ensures, c.get.ensures.value, c.text_of.ensures, c.number_of.ensures) at
    (then (one c.in_ok-begin_object.ensures) (then c.in_ok-write_count.ensures (then c.in_ok-write_text.ensures
    (then c.in_ok-write_count_or_null.ensures (one c.end_object.ensures)))))
