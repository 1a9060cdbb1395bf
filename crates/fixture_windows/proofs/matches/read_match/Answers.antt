use Rattle.season_views.specs.Cells.{books_seen}
use Rattle.fixture_windows.proofs.MatchFacts.{is_match}
use Rattle.fixture_windows.proofs.matches.read_match.Goals as goal

pub returns-clause-rows : goal.returns-clause-rows
returns-clause-rows g c =
    let seen = c.args.seen.now in
    let kept = c.requires.kept in
    is_match seen.facts seen.managers seen.leagues seen.cups c.args.cells.now kept c.lines_are_told.ensures c.args.fixture c.rows.result.0.now c.rows.result.1.now c.bonuses_held-bonuses.result.now c.rows.ensures.rows c.rows.ensures.paired
    (c.bonuses_held-bonuses.ensures.value (books_seen seen.facts seen.managers seen.leagues seen.cups) kept.evaluated)
