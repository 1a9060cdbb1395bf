-- What the public game calls a chip.
use Rattle.std.specs.Prelude.{ℕ, List, Option, Some, None, codes}
use Rattle.fpl_base.specs.declared.kinds.Chip.{Chip}
use Rattle.fpl_base.specs.declared.kinds.Chip.TheVariants as chip

abbrev pub chip_name : Chip → Option (List ℕ)
chip_name chip.None = None
chip_name chip.Wildcard = Some (codes "wildcard")
chip_name chip.FreeHit = Some (codes "freehit")
chip_name chip.BenchBoost = Some (codes "bboost")
chip_name chip.TripleCaptain = Some (codes "3xc")
