use Rattle.json_members.proofs.AppendLemmas.{then}
use Rattle.season_windows.proofs.windows.write_league_members.Goals as goal

pub returns : goal.returns
returns c =
    rw (c.is_drawn.ensures, c.from.ensures, c.get.ensures.value, c.members.ensures.value, c.text_of.ensures, c.name.ensures, c.scoring_of.ensures, c.kind.ensures, c.from-2.ensures, c.get-2.ensures.value, c.start.ensures) at
    (then c.in_ok-write_truth.ensures (then c.in_ok-write_count.ensures (then c.in_ok-write_count-2.ensures (then c.in_ok-write_text.ensures
    (then c.in_ok-write_text-2.ensures c.write_count-3.ensures)))))
