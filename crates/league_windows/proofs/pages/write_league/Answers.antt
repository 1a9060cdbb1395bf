use Rattle.json_members.proofs.AppendLemmas.{one, then}
use Rattle.league_windows.proofs.pages.write_league.Goals as goal

pub returns : goal.returns
returns c =
    rw (c.from.ensures, c.get.ensures.value, c.creator.ensures, c.is_closed.ensures, c.from-2.ensures, c.get-2.ensures.value, c.bound_told.ensures, c.kind.ensures, c.text_of.ensures, c.name.ensures, c.scoring_of.ensures, c.kind-2.ensures, c.from-3.ensures, c.get-3.ensures.value, c.start.ensures) at
    (then (one c.in_ok-key.ensures) (then (one c.in_ok-begin_object.ensures) (then c.in_ok-write_count.ensures (then c.in_ok-write_truth.ensures
    (then c.in_ok-write_text.ensures (then c.in_ok-write_count-2.ensures (then c.in_ok-write_text-2.ensures (then c.in_ok-write_count_or_null.ensures
    (then c.in_ok-write_text-3.ensures (then c.in_ok-write_text-4.ensures (then c.in_ok-write_count-3.ensures (one c.end_object.ensures))))))))))))
