use Rattle.std.proofs.Common.{◌∙◌, not, sym}
use Rattle.fpl_base.specs.Keeping.{map_of}
use Rattle.stored_records.proofs.Loops.{any_entrant}
use Rattle.store_validation.specs.LeagueRules.{plays_from}
use Rattle.store_validation.proofs.league_rules.has_late_entrant.Goals as goal

pub returns : goal.returns
returns c = c.has_late_slot.ensures ∙ sym (any_entrant (λ e. not (plays_from (map_of c.args.stored.now) c.args.start e)) c.args.slots.now)
