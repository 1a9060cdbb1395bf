use Rattle.std.proofs.Common.{◌∙◌}
use Rattle.season_entries.specs.Known.{is_registered_by}
use Rattle.season_competitions.proofs.KnownFacts.{entrants_all}
use Rattle.season_competitions.proofs.known.are_entrants_registered.Goals as goal

pub returns : goal.returns
returns c = c.are_slots_registered.ensures ∙ entrants_all (is_registered_by c.args.managers.now.managers) c.args.slots.now
