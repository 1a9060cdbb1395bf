use Rattle.std.proofs.Common.{◌≡◌, ◌≤◌, Some, None, rules, sym, ◌∙◌}
use Rattle.std.proofs.lemmas.Option.{cond_some}
use Rattle.rule_book.specs.declared.team.Team.{Team}
use Rattle.rule_book.specs.declared.team_score.TeamScore.{TeamScore}
use Rattle.rule_book.specs.HistoryTeam.{is_begun}
use Rattle.rule_book.specs.PlayerFigures.{position_in}
use Rattle.rule_book.proofs.TeamFacts.{team_is_the_one}
use Rattle.manager_book.specs.Managers.{season_of}
use Rattle.season_book.specs.EntryViews.{score_by, team_by}
use Rattle.season_views.specs.Cells.{books_seen}
use Rattle.season_views.proofs.Scores.{none_of, score_is}
use Rattle.season_views.proofs.Told.{chosen, passed_over}
use Rattle.entry_windows.specs.Told.{played_by}
use Rattle.entry_windows.specs.declared.shapes.Played.{Played}
use Rattle.entry_windows.proofs.rows.played.Goals as goal

abbrev played_with : Team → TeamScore → Played
played_with team score = record { team = team; score = score }

played_same : (team team2 : Team) (score score2 : TeamScore) → team ≡ team2 → score ≡ score2 → Some (played_with team score) ≡ Some (played_with team2 score2)
played_same team team2 score score2 same is = λ i. Some (played_with (same i) (is i))

pub returns-in_err-team-clause-value : goal.returns-in_err-team-clause-value
returns-in_err-team-clause-value g c = λ h stands.
    let facts = c.args.seen.now.facts in
    let none : c.from_residual.result ≡ None = search rules in
    none ∙ passed_over (is_begun h c.args.gameweek) (Some (played_by facts h c.args.gameweek)) None (c.in_err-team.ensures.history (position_in facts.players) h stands)

pub returns-in_err-score-clause-value : goal.returns-in_err-score-clause-value
returns-in_err-score-clause-value g c = λ h stands.
    let seen = c.args.seen.now in
    let gw = c.args.gameweek in
    let issued : 1 ≤ c.args.entry = search rules in
    let one : 1 ≤ gw = search rules in
    let none : c.from_residual-in_err-score.result ≡ None = search rules in
    let tell = c.rows_tell.ensures (position_in seen.facts.players) (season_of seen.managers c.args.entry) h stands in
    none ∙ passed_over (is_begun h gw) (Some (played_by seen.facts h gw)) None
    (none_of (is_begun h gw) (score_by seen.facts h gw)
    (c.in_err-score.ensures.value (books_seen seen.facts seen.managers seen.leagues seen.cups) c.requires.kept.kept.evaluated
    ∙ score_is seen.facts seen.managers seen.leagues seen.cups c.args.entry h issued tell c.requires.kept.profile gw one c.requires.locked))

pub returns-clause-value : goal.returns-clause-value
returns-clause-value g c = λ h stands.
    let seen = c.args.seen.now in
    let gw = c.args.gameweek in
    let issued : 1 ≤ c.args.entry = search rules in
    let one : 1 ≤ gw = search rules in
    let tell = c.rows_tell.ensures (position_in seen.facts.players) (season_of seen.managers c.args.entry) h stands in
    let is = cond_some (is_begun h gw) (score_by seen.facts h gw) c.in_ok-score.score
    (sym (c.in_ok-score.ensures.value (books_seen seen.facts seen.managers seen.leagues seen.cups) c.requires.kept.kept.evaluated
    ∙ score_is seen.facts seen.managers seen.leagues seen.cups c.args.entry h issued tell c.requires.kept.profile gw one c.requires.locked)) in
    let told = c.in_ok-team.ensures.history (position_in seen.facts.players) h stands in
    let team : c.in_ok-team.team ≡ team_by seen.facts h gw = ((team_is_the_one (position_in seen.facts.players) h gw c.in_ok-team.team).0 told.1).1 in
    played_same c.in_ok-team.team (team_by seen.facts h gw) c.in_ok-score.score (score_by seen.facts h gw) team (sym is.1)
    ∙ chosen (is_begun h gw) (Some (played_by seen.facts h gw)) None is.0
