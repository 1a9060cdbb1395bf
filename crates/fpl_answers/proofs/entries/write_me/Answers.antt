use Rattle.std.proofs.Common.{◌≡◌, rules, to_z, of_z, w32}
use Rattle.json_members.proofs.AppendLemmas.{one, then}
use Rattle.fpl_answers.proofs.entries.write_me.Goals as goal

pub returns : goal.returns
returns c =
    let total : to_z w32 (of_z w32 c.args.me.now.total) ≡ c.args.me.now.total = search rules in
    rw (c.from.ensures, c.get.ensures.value, c.from-2.ensures, c.get-2.ensures.value, c.chip_word.ensures, c.from-3.ensures, c.from-4.ensures, c.get-3.ensures.value, total, c.from-5.ensures, c.get-4.ensures.value) at
    (then (one c.in_ok-begin_object.ensures) (then c.in_ok-write_count.ensures (then c.in_ok-write_count-2.ensures (then c.in_ok-write_text.ensures
    (then c.in_ok-write_count-3.ensures (then c.in_ok-write_count-4.ensures (then c.in_ok-write_free.ensures (then c.in_ok-write_gameweek.ensures
    (then c.in_ok-write_count-5.ensures (then (one c.in_ok-key.ensures) (then c.in_ok-write_picks.ensures (then c.in_ok-write_integer.ensures
    (then c.in_ok-write_count-6.ensures (one c.end_object.ensures))))))))))))))
