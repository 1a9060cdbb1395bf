use Rattle.std.proofs.Common.{◌∙◌, ℕ, List, ap}
use Rattle.std.specs.Option.{unwrap_or}
use Rattle.rule_book.specs.ById.{at_id}
use Rattle.rule_book.specs.MatchFacts.{lines_of}
use Rattle.season_views.specs.Cells.{books_seen}
use Rattle.season_views.proofs.LinesHeld.{some_among}
use Rattle.live_windows.proofs.gathering.add_fixture.Goals as goal

pub add_rows-requires-clause-told : goal.add_rows-requires-clause-told
add_rows-requires-clause-told g c = λ row among.
    let seen = c.args.seen.now in
    let b = books_seen seen.facts seen.managers seen.leagues seen.cups in
    let f = c.args.fixture in
    let kept = c.requires.kept.kept in
    let told = c.lines_are_told.ensures b f row kept.season among in
    let bonuses = c.bonuses_held-bonuses.ensures.value b kept.evaluated (some_among (lines_of seen.facts.matches f) row among) in
    (kept.season.ranges f row.0 row.1 told.found, ap (λ (rows : List (ℕ × ℕ)). unwrap_or (at_id rows row.0) 0) bonuses ∙ told.bonus)
