use Rattle.std.proofs.Common.{◌≡◌, rules, to_z, of_z, w64}
use Rattle.json_members.proofs.AppendLemmas.{one, then}
use Rattle.bootstrap_window.proofs.events.write_row.Goals as goal

pub returns : goal.returns
returns c =
    let same : to_z w64 (of_z w64 c.args.event.now.average) ≡ c.args.event.now.average = search rules in
    rw (same, c.get.ensures.value, c.from.ensures, c.get-2.ensures.value) at
    (then (one c.in_ok-begin_object.ensures) (then c.in_ok-write_whole.ensures (then c.in_ok-write_truth.ensures (then c.in_ok-write_moment.ensures (then c.in_ok-write_count.ensures (then c.in_ok-write_truth-2.ensures
    (then c.in_ok-write_integer_or_null.ensures (then c.in_ok-write_count_or_null.ensures (then c.in_ok-write_count-2.ensures (then c.in_ok-write_truth-3.ensures (then c.in_ok-write_truth-4.ensures
    (then c.in_ok-write_truth-5.ensures (then c.in_ok-write_text.ensures (one c.end_object.ensures))))))))))))))
