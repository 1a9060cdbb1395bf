use Rattle.std.proofs.Common.{◌∙◌, ap}
use Rattle.store_validation.specs.LeagueRules.{has_key}
use Rattle.store_validation.proofs.Judged.{key_beside}
use Rattle.store_validation.proofs.league_rules.has_key.Goals as goal

pub returns : goal.returns
returns c = c.is_key_of.ensures ∙ (ap (has_key c.args.key.now) c.item.ensures.other ∙ key_beside c.args.key.now _)
