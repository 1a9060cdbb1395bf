use Rattle.std.proofs.Common.{◌≡◌, ◌≤◌, Some, None, rules, subst, ◌∙◌, if◌then◌else◌}
use Rattle.rule_book.specs.HistoryTeam.{is_begun}
use Rattle.rule_book.specs.PlayerFigures.{position_in}
use Rattle.rule_book.specs.Players.{ArePlayers}
use Rattle.manager_book.specs.Managers.{season_of}
use Rattle.season_book.specs.EntryViews.{score_by}
use Rattle.season_views.specs.Cells.{books_seen}
use Rattle.season_views.proofs.Histories.{in_books}
use Rattle.season_views.proofs.Scores.{score_is}
use Rattle.league_windows.proofs.scores.score.Goals as goal

pub returns-clause-value : goal.returns-clause-value
returns-clause-value g c entries are =
    let seen = c.args.seen.now in
    let facts = seen.facts in
    let e = c.args.entry in
    let gw = c.args.gameweek in
    let lawful : ArePlayers facts.players = subst ArePlayers c.players.ensures c.len-count.ensures.lawful in
    let one : 1 ≤ e = search rules in
    let first : 1 ≤ gw = search rules in
    in_books facts seen.managers e (λ h. c.score_held.result ≡ (if is_begun h gw then Some (score_by facts h gw) else None)) lawful one
    (λ h stands. c.score_held.ensures.value (books_seen facts seen.managers seen.leagues seen.cups) c.requires.kept.kept.evaluated
    ∙ score_is facts seen.managers seen.leagues seen.cups e h one (c.rows_tell.ensures (position_in facts.players) (season_of seen.managers e) h stands) c.requires.kept.profile gw first c.requires.locked) entries are
