use Rattle.std.proofs.Common.{◌≡◌}
use Rattle.json_members.proofs.AppendLemmas.{then}
use Rattle.season_book.specs.ElementSummary.{opponent_in}
use Rattle.fixture_windows.proofs.element_summary.write_amid.Goals as goal

pub returns : goal.returns
returns g c =
    let facts = c.args.seen.now.facts in
    let fixture = c.args.fixture.now in
    let opponent : c.opponent_of-opponent.result ≡ opponent_in facts fixture c.args.player = c.opponent_of-opponent.ensures facts c.args.player c.side_of.ensures in
    rw (opponent, c.number_of.ensures) at
    (then c.in_ok-write_count_or_null.ensures (then c.in_ok-write_figure.ensures (then c.in_ok-write_figure-2.ensures (then c.in_ok-write_figure-3.ensures (then c.in_ok-write_figure-4.ensures
    (then c.in_ok-write_count_or_null-2.ensures c.write_figure-5.ensures))))))
