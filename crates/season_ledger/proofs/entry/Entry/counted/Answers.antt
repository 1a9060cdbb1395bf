use Rattle.std.proofs.Common.{◌≡◌, rules, ◌∙◌}
use Rattle.season_ledger.specs.Rows.{counted_by}
use Rattle.season_ledger.proofs.Season.{counted_for}
use Rattle.season_ledger.proofs.entry.Entry.counted.Goals as goal

pub returns-in-Some-clause-history : goal.returns-in-Some-clause-history
returns-in-Some-clause-history c position h st = let e : c.counted_of.result ≡ counted_by c.args.self.now c.args.through = search rules in
    e ∙ counted_for position c.args.self.now h c.args.through st

pub returns-in-None-clause-history : goal.returns-in-None-clause-history
returns-in-None-clause-history c position h st = let e : c.counted_of-in-None.result ≡ counted_by c.args.self.now c.args.through = search rules in
    e ∙ counted_for position c.args.self.now h c.args.through st
