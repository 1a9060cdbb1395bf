use Rattle.std.proofs.Common.{◌≡◌, rules, sym, ◌∙◌}
use Rattle.season_ledger.specs.Rows.{is_up_to}
use Rattle.season_ledger.proofs.Season.{up_to_true, true_up_to}
use Rattle.season_ledger.proofs.entry.Entry.is_up_to.Goals as goal

pub returns : goal.returns
returns c = let e : c.are_up_to.result ≡ is_up_to c.args.g c.args.self.now = search rules in
    (λ t. up_to_true c.args.g c.args.self.now (sym e ∙ t), λ u. e ∙ true_up_to c.args.g c.args.self.now u)
