use Rattle.std.proofs.Common.{◌≡◌, ◌≤◌, ◌∙◌, FitsSigned, Option, ap, pos, rules, subst, sym, w32}
use Rattle.std.specs.Option.{option_map_or}
use Rattle.std.proofs.lemmas.Int.{to_z-of_z}
use Rattle.rule_book.specs.declared.team_score.TeamScore.{TeamScore}
use Rattle.rule_book.specs.Players.{ArePlayers}
use Rattle.season_views.specs.Cells.{books_seen}
use Rattle.season_views.proofs.Matches.{points_are}
use Rattle.league_windows.proofs.NetShown.{net_held}
use Rattle.league_windows.proofs.cup_window.net_of.Goals as goal

pub returns-in-Some-clause-value : goal.returns-in-Some-clause-value
returns-in-Some-clause-value g c = λ entries are.
    let seen = c.args.seen.now in
    let b = books_seen seen.facts seen.managers seen.leagues seen.cups in
    let e = c.args.entry in
    let gw = c.args.gameweek in
    let one : 1 ≤ gw = search rules in
    let lawful : ArePlayers seen.facts.players = subst ArePlayers c.players.ensures c.len-count.ensures.lawful in
    let fits : FitsSigned w32 c.in-Some.score.net = search rules in
    let held : c.in-Some.score.net ≡ option_map_or (λ (s : TeamScore). s.net) c.score_held.result (pos 0) =
    ap (λ (o : Option TeamScore). option_map_or (λ (s : TeamScore). s.net) o (pos 0)) (sym c.in-Some.is) in
    to_z-of_z w32 c.in-Some.score.net fits
    ∙ held
    ∙ net_held b e gw c.score_held.result (c.score_held.ensures.value b c.requires.kept.kept.evaluated)
    ∙ points_are seen.facts seen.managers seen.leagues seen.cups entries lawful c.rows_tell.ensures c.requires.kept.profile are e gw one c.requires.locked

pub returns-in-None-clause-value : goal.returns-in-None-clause-value
returns-in-None-clause-value g c = λ entries are.
    let seen = c.args.seen.now in
    let b = books_seen seen.facts seen.managers seen.leagues seen.cups in
    let e = c.args.entry in
    let gw = c.args.gameweek in
    let one : 1 ≤ gw = search rules in
    let lawful : ArePlayers seen.facts.players = subst ArePlayers c.players.ensures c.len-count.ensures.lawful in
    ap (λ o. option_map_or (λ (s : TeamScore). s.net) o (pos 0)) (sym c.in-None.is)
    ∙ net_held b e gw c.score_held.result (c.score_held.ensures.value b c.requires.kept.kept.evaluated)
    ∙ points_are seen.facts seen.managers seen.leagues seen.cups entries lawful c.rows_tell.ensures c.requires.kept.profile are e gw one c.requires.locked
