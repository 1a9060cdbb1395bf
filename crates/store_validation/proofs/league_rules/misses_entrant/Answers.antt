use Rattle.std.proofs.Common.{◌∙◌, sym}
use Rattle.fpl_base.specs.Keeping.{map_of}
use Rattle.season_records.specs.declared.slot.Slot.TheVariants as slot
use Rattle.stored_records.specs.SeasonRules.{misses}
use Rattle.stored_records.proofs.Loops.{any_entrant}
use Rattle.store_validation.proofs.league_rules.misses_entrant.Goals as goal

pub returns : goal.returns
returns c = c.has_lost_slot.ensures ∙ sym (any_entrant (λ e. misses (map_of c.args.stored.now) (slot.Entry e)) c.args.slots.now)
