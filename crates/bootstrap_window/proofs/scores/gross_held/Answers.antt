use Rattle.std.proofs.Common.{◌≡◌, ◌≤◌, ◌∙◌, Some, None, rules, subst, if◌then◌else◌}
use Rattle.rule_book.specs.HistoryTeam.{is_begun}
use Rattle.rule_book.specs.PlayerFigures.{position_in}
use Rattle.rule_book.specs.Players.{ArePlayers}
use Rattle.manager_book.specs.Managers.{season_of}
use Rattle.season_book.specs.EntryViews.{score_by}
use Rattle.season_views.specs.Cells.{books_seen}
use Rattle.season_views.proofs.Histories.{in_books}
use Rattle.season_views.proofs.Scores.{score_is}
use Rattle.bootstrap_window.proofs.Grosses.{gross_of}
use Rattle.bootstrap_window.proofs.scores.gross_held.Goals as goal

pub returns-clause-value : goal.returns-clause-value
returns-clause-value g c = λ entries are row at.
    let seen = c.args.seen.now in
    let facts = seen.facts in
    let managers = seen.managers in
    let e = c.args.entry in
    let gw = c.args.gameweek in
    let position = position_in facts.players in
    let lawful : ArePlayers facts.players = subst ArePlayers c.players.ensures c.len-count.ensures.lawful in
    let issued : 1 ≤ e = search rules in
    let one : 1 ≤ gw = search rules in
    let held = in_books facts managers e (λ h. c.score_held.result ≡ (if is_begun h gw then Some (score_by facts h gw) else None)) lawful issued
    (λ h stands.
    c.score_held.ensures.value (books_seen facts managers seen.leagues seen.cups) c.requires.kept.kept.evaluated
    ∙ score_is facts managers seen.leagues seen.cups e h issued (c.rows_tell.ensures position (season_of managers e) h stands) c.requires.kept.profile gw one c.requires.locked) entries are in
    c.gross_of.ensures ∙ gross_of facts gw entries e row c.score_held.result at held
