use Rattle.std.proofs.Common.{◌≡◌, rules, sym, subst, refl}
use Rattle.rule_book.specs.HistoryRules.{FirstTold}
use Rattle.season_ledger.specs.Rows.{IsKept, first_in, standing_at}
use Rattle.season_ledger.proofs.Season.{first_for, standing_begun}
use Rattle.season_ledger.proofs.entry.Entry.first.Goals as goal

pub returns-clause-history : goal.returns-clause-history
returns-clause-history c position h st = let e : c.first_of.result ≡ first_in c.args.self.now = search rules in
    subst (FirstTold h) (sym e) (first_for position c.args.self.now h st)

pub returns-clause-begun : goal.returns-clause-begun
returns-clause-begun c g = let k : IsKept c.args.self.now = search rules in standing_begun c.args.self.now g k (standing_at c.args.self.now g) refl
