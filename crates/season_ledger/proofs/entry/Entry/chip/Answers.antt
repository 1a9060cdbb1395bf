use Rattle.std.proofs.Common.{◌≡◌, rules, ◌∙◌}
use Rattle.fpl_base.specs.declared.kinds.Chip.TheVariants.{None as NoChip}
use Rattle.season_ledger.specs.Rows.{chip_by}
use Rattle.season_ledger.proofs.Frees.{chip_is}
use Rattle.season_ledger.proofs.Placed.{stands}
use Rattle.season_ledger.proofs.entry.Entry.chip.Goals as goal

pub returns-in-Some-clause-history : goal.returns-in-Some-clause-history
returns-in-Some-clause-history c position h st = let e : c.in-Some.standing.team.chip ≡ chip_by c.args.self.now c.args.g = search rules in e ∙ chip_is c.args.self.now h c.args.g (stands position c.args.self.now h st).held

pub returns-in-None-clause-history : goal.returns-in-None-clause-history
returns-in-None-clause-history c position h st = let e : NoChip ≡ chip_by c.args.self.now c.args.g = search rules in e ∙ chip_is c.args.self.now h c.args.g (stands position c.args.self.now h st).held
