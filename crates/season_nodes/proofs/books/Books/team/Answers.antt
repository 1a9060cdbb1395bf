use Rattle.std.proofs.Common.{◌≡◌, ◌≤◌, ◌-◌, Some, None, rules}
use Rattle.std.specs.Prelude.{slice_get}
use Rattle.season_nodes.proofs.BookTeams.{issued_begun, issued_team, missing_begun}
use Rattle.season_nodes.proofs.books.Books.team.Goals as goal

pub returns-in-Some-clause-team : goal.returns-in-Some-clause-team
returns-in-Some-clause-team c =
    let at : slice_get c.args.self.now.managers.now.managers (c.args.entry - 1) ≡ Some c.in-Some.manager.now = search rules in
    issued_team c.args.self.now.managers.now c.args.entry c.args.gameweek c.in-Some.manager.now at c.standing_team.result c.standing_team.ensures.rows

pub returns-in-Some-clause-begun : goal.returns-in-Some-clause-begun
returns-in-Some-clause-begun c =
    let at : slice_get c.args.self.now.managers.now.managers (c.args.entry - 1) ≡ Some c.in-Some.manager.now = search rules in
    let one : 1 ≤ c.args.entry = search rules in
    issued_begun c.args.self.now.managers.now c.args.entry c.args.gameweek c.in-Some.manager.now at one c.standing_team.result c.standing_team.ensures.begun

pub returns-in-None-clause-begun : goal.returns-in-None-clause-begun
returns-in-None-clause-begun c =
    let none : slice_get c.args.self.now.managers.now.managers (c.args.entry - 1) ≡ None = search rules in
    let one : 1 ≤ c.args.entry = search rules in
    missing_begun c.args.self.now.managers.now c.args.entry c.args.gameweek one none
