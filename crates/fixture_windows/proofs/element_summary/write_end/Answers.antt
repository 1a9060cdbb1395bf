use Rattle.json_members.proofs.AppendLemmas.{then}
use Rattle.fixture_windows.proofs.element_summary.write_end.Goals as goal

pub returns : goal.returns
returns g c =
    let facts = c.args.seen.now.facts in
    let fixture = c.args.fixture.now in
    let at_home = c.in_ok-write_home.ensures facts fixture c.args.player c.side_of.ensures in
    rw (c.away_in.ensures, c.requires.away, c.home_in.ensures, c.requires.home, c.requires.bonus, c.yellow_cards.ensures) at
    (then c.in_ok-write_count_or_null.ensures (then c.in_ok-write_count_or_null-2.ensures (then c.in_ok-write_points.ensures (then at_home c.write_count.ensures))))
