use Rattle.std.proofs.Common.{◌≡◌, pos, rules, to_z, of_z, w32, sym, ap, ◌∙◌}
use Rattle.std.specs.Option.{option_map_or}
use Rattle.rule_book.specs.declared.team_score.TeamScore.{TeamScore}
use Rattle.rule_book.specs.HistoryTeam.{is_begun}
use Rattle.season_book.specs.EntryViews.{score_by}
use Rattle.season_book.specs.LeagueViews.{history_of}
use Rattle.league_windows.proofs.ScoreParts.{net_of}
use Rattle.league_windows.proofs.scores.net.Goals as goal

pub returns-in-Some-clause-value : goal.returns-in-Some-clause-value
returns-in-Some-clause-value g c entries are =
    let h = history_of entries c.args.entry in
    let fits : to_z w32 (of_z w32 c.in-Some.score.net) ≡ c.in-Some.score.net = search rules in
    fits
    ∙ ap (λ o. option_map_or (λ (x : TeamScore). x.net) o (pos 0)) (sym c.in-Some.is)
    ∙ net_of (is_begun h c.args.gameweek) (score_by c.args.seen.now.facts h c.args.gameweek) c.score.result (c.score.ensures.value entries are)

pub returns-in-None-clause-value : goal.returns-in-None-clause-value
returns-in-None-clause-value g c entries are =
    let h = history_of entries c.args.entry in
    ap (λ o. option_map_or (λ (x : TeamScore). x.net) o (pos 0)) (sym c.in-None.is)
    ∙ net_of (is_begun h c.args.gameweek) (score_by c.args.seen.now.facts h c.args.gameweek) c.score.result (c.score.ensures.value entries are)
