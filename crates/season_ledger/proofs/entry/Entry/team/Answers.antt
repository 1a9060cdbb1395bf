use Rattle.std.proofs.Common.{◌≡◌, Option, Some, None, rules, subst}
use Rattle.rule_book.specs.HistoryTeam.{TeamTold, TeamBalances}
use Rattle.season_ledger.specs.declared.row.Standing.{Standing}
use Rattle.season_ledger.specs.Rows.{standing_at, team_in}
use Rattle.season_ledger.proofs.Season.{standing_for, balances_for}
use Rattle.season_ledger.proofs.entry.Entry.team.Goals as goal

pub returns-in-Some-clause-history : goal.returns-in-Some-clause-history
returns-in-Some-clause-history c position h st = let e : standing_at c.args.self.now c.args.g ≡ Some c.in-Some.standing = search rules in
    subst (λ (o : Option Standing). TeamTold position h c.args.g (team_in o)) e (standing_for position c.args.self.now h c.args.g st)

pub returns-in-None-clause-history : goal.returns-in-None-clause-history
returns-in-None-clause-history c position h st = let e : standing_at c.args.self.now c.args.g ≡ None = search rules in
    subst (λ (o : Option Standing). TeamTold position h c.args.g (team_in o)) e (standing_for position c.args.self.now h c.args.g st)

pub returns-in-Some-clause-laws : goal.returns-in-Some-clause-laws
returns-in-Some-clause-laws c position h st = let e : standing_at c.args.self.now c.args.g ≡ Some c.in-Some.standing = search rules in
    subst (λ (o : Option Standing). TeamBalances h c.args.g (team_in o)) e (balances_for position c.args.self.now h c.args.g st)
