use Rattle.std.proofs.Common.{◌≡◌, ◌≤◌, Some, rules, subst, ap, ◌∙◌}
use Rattle.season_ledger.specs.Rows.{IsKept, used_by, made_in, row_at}
use Rattle.season_ledger.proofs.Season.{used_few}
use Rattle.season_ledger.proofs.Frees.{used_is}
use Rattle.season_ledger.proofs.Placed.{stands}
use Rattle.season_ledger.proofs.entry.Entry.made.Goals as goal

pub returns-in-Some-clause-few : goal.returns-in-Some-clause-few
returns-in-Some-clause-few c =
    let k : IsKept c.args.self.now = search rules in
    let e : row_at c.args.self.now c.args.g ≡ Some c.in-Some.standing = search rules in
    subst (λ n. n ≤ 1000) (ap made_in e) (used_few c.args.self.now c.args.g k)

pub returns-in-Some-clause-history : goal.returns-in-Some-clause-history
returns-in-Some-clause-history c position h st = let e : c.in-Some.standing.made ≡ used_by c.args.self.now c.args.g = search rules in e ∙ used_is c.args.self.now h c.args.g (stands position c.args.self.now h st).held

pub returns-in-None-clause-history : goal.returns-in-None-clause-history
returns-in-None-clause-history c position h st = let e : 0 ≡ used_by c.args.self.now c.args.g = search rules in e ∙ used_is c.args.self.now h c.args.g (stands position c.args.self.now h st).held
