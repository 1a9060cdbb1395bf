use Rattle.std.proofs.Common.{◌≡◌, Option, rules, sym, subst}
use Rattle.rule_book.specs.HistoryTeam.{TeamTold, TeamBalances}
use Rattle.season_ledger.specs.declared.row.Standing.{Standing}
use Rattle.season_ledger.specs.Rows.{IsKept, standing_at, team_in}
use Rattle.season_ledger.proofs.Season.{standing_begun, standing_fit, standing_for, balances_for}
use Rattle.season_ledger.proofs.entry.Entry.standing.Goals as goal

pub returns-clause-begun : goal.returns-clause-begun
returns-clause-begun c = let k : IsKept c.args.self.now = search rules in standing_begun c.args.self.now c.args.g k c.standing_of.result (search rules)

pub returns-clause-history : goal.returns-clause-history
returns-clause-history c position h st = let e : c.standing_of.result ≡ standing_at c.args.self.now c.args.g = search rules in
    subst (λ (o : Option Standing). TeamTold position h c.args.g (team_in o)) (sym e) (standing_for position c.args.self.now h c.args.g st)

pub returns-clause-laws : goal.returns-clause-laws
returns-clause-laws c position h st = let e : c.standing_of.result ≡ standing_at c.args.self.now c.args.g = search rules in
    subst (λ (o : Option Standing). TeamBalances h c.args.g (team_in o)) (sym e) (balances_for position c.args.self.now h c.args.g st)

pub returns-clause-fit : goal.returns-clause-fit
returns-clause-fit c = let k : IsKept c.args.self.now = search rules in standing_fit c.args.self.now c.args.g k c.standing_of.result (search rules)
