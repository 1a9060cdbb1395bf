use Rattle.std.proofs.Common.{◌≡◌, ◌≤◌, rules, of_z, sym, to_z, w32, ◌∙◌}
use Rattle.rule_book.specs.PlayerFigures.{position_in}
use Rattle.manager_book.specs.Managers.{season_of}
use Rattle.season_views.specs.Cells.{books_seen}
use Rattle.season_views.proofs.Scores.{score_is}
use Rattle.entry_windows.proofs.Compared.{net_of_none, net_of_some}
use Rattle.entry_windows.proofs.ranks.net_in.Goals as goal

pub returns-in-Some-clause-value : goal.returns-in-Some-clause-value
returns-in-Some-clause-value g c = λ h stands.
    let seen = c.args.seen.now in
    let gw = c.args.gameweek in
    let issued : 1 ≤ c.args.entry = search rules in
    let one : 1 ≤ gw = search rules in
    let tell = c.rows_tell.ensures (position_in seen.facts.players) (season_of seen.managers c.args.entry) h stands in
    let fits : to_z w32 (of_z w32 c.in-Some.score.net) ≡ c.in-Some.score.net = search rules in
    fits
    ∙ net_of_some seen.facts h gw c.in-Some.score
    (sym c.in-Some.is ∙ c.score_held.ensures.value (books_seen seen.facts seen.managers seen.leagues seen.cups) c.requires.kept.kept.evaluated
    ∙ score_is seen.facts seen.managers seen.leagues seen.cups c.args.entry h issued tell c.requires.kept.profile gw one c.requires.locked)

pub returns-in-None-clause-value : goal.returns-in-None-clause-value
returns-in-None-clause-value g c = λ h stands.
    let seen = c.args.seen.now in
    let gw = c.args.gameweek in
    let issued : 1 ≤ c.args.entry = search rules in
    let one : 1 ≤ gw = search rules in
    let tell = c.rows_tell.ensures (position_in seen.facts.players) (season_of seen.managers c.args.entry) h stands in
    net_of_none seen.facts h gw
    (sym c.in-None.is ∙ c.score_held.ensures.value (books_seen seen.facts seen.managers seen.leagues seen.cups) c.requires.kept.kept.evaluated
    ∙ score_is seen.facts seen.managers seen.leagues seen.cups c.args.entry h issued tell c.requires.kept.profile gw one c.requires.locked)
