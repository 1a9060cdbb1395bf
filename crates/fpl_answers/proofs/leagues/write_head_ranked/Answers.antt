use Rattle.std.proofs.Common.{◌≡◌, rules, to_z, of_z, w32}
use Rattle.json_members.proofs.AppendLemmas.{one, then}
use Rattle.fpl_answers.proofs.leagues.write_head_ranked.Goals as goal

pub returns : goal.returns
returns c =
    let scored : to_z w32 (of_z w32 c.args.ranked.now.row.score.scored) ≡ c.args.ranked.now.row.score.scored = search rules in
    rw (c.from.ensures, c.from-2.ensures, c.get.ensures.value, c.from-3.ensures, c.text_of.ensures, c.from-4.ensures, c.from-5.ensures, scored, c.from-6.ensures) at
    (then (one c.in_ok-begin_object.ensures) (then c.in_ok-write_count.ensures (then c.in_ok-write_count-2.ensures (then c.in_ok-write_count-3.ensures
    (then c.in_ok-write_text.ensures (then c.in_ok-write_count-4.ensures (then c.in_ok-write_count-5.ensures (then c.in_ok-write_integer.ensures
    (then c.in_ok-write_count-6.ensures (one c.end_object.ensures))))))))))
