use Rattle.std.proofs.Common.{◌≡◌, rules, ◌∙◌}
use Rattle.season_ledger.specs.Rows.{cost_by}
use Rattle.season_ledger.proofs.Season.{cost_for}
use Rattle.season_ledger.proofs.entry.Entry.cost.Goals as goal

pub returns-then-get-clause-history : goal.returns-then-get-clause-history
returns-then-get-clause-history c position h st = let e : 0 ≡ cost_by c.args.profile c.args.self.now c.args.g = search rules in
    e ∙ cost_for c.args.profile position c.args.self.now h c.args.g st

pub returns-else-get-clause-history : goal.returns-else-get-clause-history
returns-else-get-clause-history c position h st = let e : c.cost_of.result ≡ cost_by c.args.profile c.args.self.now c.args.g = search rules in
    e ∙ cost_for c.args.profile position c.args.self.now h c.args.g st

pub returns-in-None-clause-history : goal.returns-in-None-clause-history
returns-in-None-clause-history c position h st = let e : 0 ≡ cost_by c.args.profile c.args.self.now c.args.g = search rules in
    e ∙ cost_for c.args.profile position c.args.self.now h c.args.g st
