use Rattle.std.proofs.Common.{◌≤◌, ◌∙◌, ◌++◌, ◌∷◌, [], ℕ, List, Some, None, append-nil, arith, ap, refl, rules, sym, subst, if◌then◌else◌}
use Rattle.rule_book.specs.HistoryTeam.{TeamTold}
use Rattle.rule_book.specs.PlayerFigures.{position_in}
use Rattle.rule_book.specs.Players.{ArePlayers}
use Rattle.rule_book.proofs.TeamFacts.{team_is_the_one}
use Rattle.season_book.specs.Book.{EntryFacts}
use Rattle.season_views.proofs.Histories.{in_books}
use Rattle.season_book.specs.Elements.{is_picked}
use Rattle.bootstrap_window.specs.Tables.{AreHeld}
use Rattle.bootstrap_window.proofs.HeldFacts.{held_more, one_at_most, told_of}
use Rattle.bootstrap_window.proofs.holders.count_entry.Goals as goal

pub returns-in-None-clause-value : goal.returns-in-None-clause-value
returns-in-None-clause-value g c = λ entries are row at rows held.
    let facts = c.args.seen.now.facts in
    let managers = c.args.seen.now.managers in
    let e = c.args.entry in
    let gw = c.args.gameweek in
    let position = position_in facts.players in
    let lawful : ArePlayers facts.players = subst ArePlayers c.players.ensures c.len-count.ensures.lawful in
    let issued : 1 ≤ e = search rules in
    let told = told_of facts gw entries e row None at (in_books facts managers e (λ h. TeamTold position h gw None) lawful issued
    (λ h stands. subst (TeamTold position h gw) c.in-None.is (c.team_at.ensures.history position h stands)) entries are) in
    subst (λ (all : List (ℕ × EntryFacts)). AreHeld facts gw all c.args.holders.now)
    (sym (ap (λ b. rows ++ (if b then (e, row) ∷ [] else [])) told ∙ append-nil rows)) held

pub returns-in_ok-count_team-in-Some-clause-value : goal.returns-in_ok-count_team-in-Some-clause-value
returns-in_ok-count_team-in-Some-clause-value g c = λ entries are row at rows held.
    let facts = c.args.seen.now.facts in
    let managers = c.args.seen.now.managers in
    let e = c.args.entry in
    let gw = c.args.gameweek in
    let team = c.in-Some.team in
    let position = position_in facts.players in
    let lawful : ArePlayers facts.players = subst ArePlayers c.players.ensures c.len-count.ensures.lawful in
    let issued : 1 ≤ e = search rules in
    let told = told_of facts gw entries e row (Some team) at (in_books facts managers e (λ h. TeamTold position h gw (Some team)) lawful issued
    (λ h stands. subst (TeamTold position h gw) c.in-Some.is (c.team_at.ensures.history position h stands)) entries are) in
    let is = ((team_is_the_one position row.history gw team).0 told.1).1 in
    held_more facts gw rows e row team c.args.holders.now _ held told.0 is c.in_ok-count_team-in-Some.ensures refl

pub returns-in_ok-count_team-in-Some-clause-few : goal.returns-in_ok-count_team-in-Some-clause-few
returns-in_ok-count_team-in-Some-clause-few g c = λ p.
    let more = c.in_ok-count_team-in-Some.ensures p in
    let one = one_at_most (is_picked c.in-Some.team.picks p) in
    omega (arith, more, one)
