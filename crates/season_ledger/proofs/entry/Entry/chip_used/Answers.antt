use Rattle.std.proofs.Common.{◌≡◌, ◌-◌, rules, ◌∙◌}
use Rattle.rule_book.specs.History.{chip_at}
use Rattle.rule_book.specs.HistoryTransfers.{used_before, half_of}
use Rattle.season_ledger.specs.Rows.{chip_by}
use Rattle.squad_rules.proofs.ChipsPlayed.{among_agree}
use Rattle.season_ledger.proofs.Frees.{chip_is}
use Rattle.season_ledger.proofs.Placed.{stands}
use Rattle.season_ledger.proofs.entry.Entry.chip_used.Goals as goal

pub returns-clause-history : goal.returns-clause-history
returns-clause-history c position h st = let e : c.used_of.result ≡ used_before c.args.split (chip_by c.args.self.now) c.args.chip c.args.g = search rules in
    e ∙ among_agree (chip_by c.args.self.now) (chip_at h) c.args.chip (half_of c.args.split c.args.chip c.args.g) (c.args.g - half_of c.args.split c.args.chip c.args.g) (λ g. chip_is c.args.self.now h g (stands position c.args.self.now h st).held)
