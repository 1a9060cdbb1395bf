use Rattle.json_members.proofs.AppendLemmas.{one, then}
use Rattle.entry_windows.proofs.entry_writing.begin_entry.Goals as goal

pub returns : goal.returns
returns c =
    rw (c.number_of.ensures, c.from.ensures, c.get.ensures.value, c.bank_of.ensures, c.from-2.ensures) at
    (then (one c.in_ok-begin_object.ensures) (then c.in_ok-write_count_or_null.ensures (then c.in_ok-write_count.ensures
    (then c.in_ok-write_count_or_null-2.ensures (then c.in_ok-write_count-2.ensures (one c.key.ensures))))))
