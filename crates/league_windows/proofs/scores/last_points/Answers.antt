use Rattle.std.proofs.Common.{◌≡◌, pos, rules, to_z, of_z, w32, sym, ap, ◌∙◌, ◌&&◌, if◌then◌else◌}
use Rattle.std.specs.Prelude.{nat_le}
use Rattle.std.specs.Option.{option_map_or}
use Rattle.rule_book.specs.declared.team_score.TeamScore.{TeamScore}
use Rattle.rule_book.specs.HistoryTeam.{is_begun}
use Rattle.season_book.specs.EntryViews.{score_by}
use Rattle.season_book.specs.LeagueViews.{history_of}
use Rattle.league_windows.proofs.ScoreParts.{gross_of}
use Rattle.league_windows.proofs.StandingsBefore.{is_behind}
use Rattle.league_windows.proofs.scores.last_points.Goals as goal

pub returns-in-Some-score-clause-value : goal.returns-in-Some-score-clause-value
returns-in-Some-score-clause-value g c entries are =
    let facts = c.args.seen.now.facts in
    let locked = facts.calendar.locked in
    let h = history_of entries c.args.entry in
    let last = c.in-Some.last in
    let is = is_behind (nat_le 1 locked) locked last c.last_gameweek.result c.last_gameweek.ensures c.in-Some.is in
    let fits : to_z w32 (of_z w32 c.in-Some-score.score.gross) ≡ c.in-Some-score.score.gross = search rules in
    fits
    ∙ ap (λ o. option_map_or (λ (x : TeamScore). x.gross) o (pos 0)) (sym c.in-Some-score.is)
    ∙ gross_of (is_begun h last) (score_by facts h last) c.score.result (c.score.ensures.value entries are)
    ∙ ap (λ g. if is_begun h g then (score_by facts h g).gross else pos 0) (sym is.1)
    ∙ ap (λ b. if b && is_begun h locked then (score_by facts h locked).gross else pos 0) (sym is.0)

pub returns-in-None-clause-value : goal.returns-in-None-clause-value
returns-in-None-clause-value g c entries are =
    let facts = c.args.seen.now.facts in
    let locked = facts.calendar.locked in
    let h = history_of entries c.args.entry in
    let last = c.in-Some.last in
    let is = is_behind (nat_le 1 locked) locked last c.last_gameweek.result c.last_gameweek.ensures c.in-Some.is in
    ap (λ o. option_map_or (λ (x : TeamScore). x.gross) o (pos 0)) (sym c.in-None.is)
    ∙ gross_of (is_begun h last) (score_by facts h last) c.score.result (c.score.ensures.value entries are)
    ∙ ap (λ g. if is_begun h g then (score_by facts h g).gross else pos 0) (sym is.1)
    ∙ ap (λ b. if b && is_begun h locked then (score_by facts h locked).gross else pos 0) (sym is.0)
