use Rattle.std.proofs.Common.{◌≡◌, rules, to_z, of_z, w32}
use Rattle.json_members.proofs.AppendLemmas.{one, then}
use Rattle.fpl_answers.proofs.leagues.write_ranked.Goals as goal

pub returns : goal.returns
returns c =
    let total : to_z w32 (of_z w32 c.args.ranked.now.row.total) ≡ c.args.ranked.now.row.total = search rules in
    rw (c.from.ensures, c.get.ensures.value, c.text_of.ensures, c.from-2.ensures, total, c.from-3.ensures) at
    (then (one c.in_ok-begin_object.ensures) (then c.in_ok-write_count.ensures (then c.in_ok-write_text.ensures (then c.in_ok-write_count-2.ensures
    (then c.in_ok-write_integer.ensures (then c.in_ok-write_count-3.ensures (one c.end_object.ensures)))))))
