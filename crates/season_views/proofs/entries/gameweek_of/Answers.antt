use Rattle.std.proofs.Common.{◌≡◌, ◌≤◌, ℕ, List, Some, None, rules, sym, ap, ◌∙◌}
use Rattle.std.proofs.lemmas.Option.{cond_some}
use Rattle.rule_book.specs.HistoryTeam.{is_begun}
use Rattle.rule_book.specs.PlayerFigures.{position_in}
use Rattle.manager_book.specs.Managers.{season_of}
use Rattle.season_book.specs.EntryViews.{entry_gameweek_shown, score_by}
use Rattle.season_views.specs.Cells.{books_seen}
use Rattle.season_views.proofs.Scores.{none_of, score_is}
use Rattle.season_views.proofs.Told.{gameweek_told, passed_over}
use Rattle.season_views.proofs.entries.gameweek_of.Goals as goal

pub returns-in_err-team-clause-value : goal.returns-in_err-team-clause-value
returns-in_err-team-clause-value g c h stands =
    let facts = c.args.seen.now.facts in
    let none : c.from_residual.result ≡ None = search rules in
    none ∙ passed_over (is_begun h c.args.gameweek) (Some (entry_gameweek_shown facts h c.args.gameweek)) None (c.in_err-team.ensures.history (position_in facts.players) h stands)

pub returns-in_err-score-clause-value : goal.returns-in_err-score-clause-value
returns-in_err-score-clause-value g c h stands =
    let facts = c.args.seen.now.facts in
    let managers = c.args.seen.now.managers in
    let gw = c.args.gameweek in
    let issued : 1 ≤ c.args.entry = search rules in
    let one : 1 ≤ gw = search rules in
    let none : c.from_residual-in_err-score.result ≡ None = search rules in
    let tell = c.rows_tell.ensures (position_in facts.players) (season_of managers c.args.entry) h stands in
    none ∙ passed_over (is_begun h gw) (Some (entry_gameweek_shown facts h gw)) None
    (none_of (is_begun h gw) (score_by facts h gw)
    (c.in_err-score.ensures.value (books_seen facts managers c.requires.kept.0 c.requires.kept.1) c.requires.kept.2.evaluated ∙ score_is facts managers c.requires.kept.0 c.requires.kept.1 c.args.entry h issued tell c.requires.profile gw one c.requires.locked))

pub returns-clause-value : goal.returns-clause-value
returns-clause-value g c h stands =
    let facts = c.args.seen.now.facts in
    let managers = c.args.seen.now.managers in
    let gw = c.args.gameweek in
    let issued : 1 ≤ c.args.entry = search rules in
    let one : 1 ≤ gw = search rules in
    let tell = c.rows_tell.ensures (position_in facts.players) (season_of managers c.args.entry) h stands in
    let is = cond_some (is_begun h gw) (score_by facts h gw) c.in_ok-score.score
    (sym (c.in_ok-score.ensures.value (books_seen facts managers c.requires.kept.0 c.requires.kept.1) c.requires.kept.2.evaluated ∙ score_is facts managers c.requires.kept.0 c.requires.kept.1 c.args.entry h issued tell c.requires.profile gw one c.requires.locked)) in
    gameweek_told facts h gw c.in_ok-team.team (c.in_ok-team.ensures.history (position_in facts.players) h stands) _ c.in_ok-score.score (sym is.1)
    (ap (λ (players : List ℕ). record { players = players; chip = c.in_ok-team.team.chip; score = c.in_ok-score.score }) c.players_of.ensures)
