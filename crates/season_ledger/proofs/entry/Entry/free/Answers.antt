use Rattle.std.proofs.Common.{◌≡◌, Some, None, rules, sym, subst}
use Rattle.rule_book.specs.HistoryTransfers.{FreeTold}
use Rattle.season_ledger.specs.Rows.{free_in}
use Rattle.season_ledger.proofs.Season.{free_for}
use Rattle.season_ledger.proofs.entry.Entry.free.Goals as goal

pub returns-in_err-first_of-clause-history : goal.returns-in_err-first_of-clause-history
returns-in_err-first_of-clause-history c position h st = let e : c.from_residual.result ≡ free_in c.args.profile c.args.self.now c.args.g = search rules in
    subst (FreeTold c.args.profile h c.args.g) (sym e) (free_for c.args.profile position c.args.self.now h c.args.g st)

pub returns-then-get-first-clause-history : goal.returns-then-get-first-clause-history
returns-then-get-first-clause-history c position h st = let e : None ≡ free_in c.args.profile c.args.self.now c.args.g = search rules in
    subst (FreeTold c.args.profile h c.args.g) (sym e) (free_for c.args.profile position c.args.self.now h c.args.g st)

pub returns-clause-history : goal.returns-clause-history
returns-clause-history c position h st = let e : Some c.free_of.result ≡ free_in c.args.profile c.args.self.now c.args.g = search rules in
    subst (FreeTold c.args.profile h c.args.g) (sym e) (free_for c.args.profile position c.args.self.now h c.args.g st)
