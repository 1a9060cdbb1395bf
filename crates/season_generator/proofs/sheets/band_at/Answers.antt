use Rattle.std.proofs.Common.{◌%◌}
use Rattle.season_generator.proofs.MadeFacts.{bands_within}
use Rattle.season_generator.proofs.sheets.band_at.Goals as goal

pub returns-clause-range : goal.returns-clause-range
returns-clause-range c = bands_within (c.args.place % 16)
