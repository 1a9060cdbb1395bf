-- The armband: whose points count more than once.
use Rattle.std.specs.Prelude.{ℕ, Bool, not, ◌||◌, List, Option, Some, None, if◌then◌else◌}
use Rattle.fpl_base.specs.declared.kinds.Chip.{Chip}
use Rattle.fpl_base.specs.declared.kinds.Chip.TheVariants as chip
use Rattle.rule_book.specs.declared.team.Team.{Team}
use Rattle.rule_book.specs.declared.team_score.Figures.{Figures}
use Rattle.rule_book.specs.declared.team_score.Armband.{Armband}
use Rattle.rule_book.specs.Teams.{did_play}

-- how often the points of the armband count: three times under a triple captain, else twice
abbrev pub factor_of : Chip → ℕ
factor_of chip.TripleCaptain = 3
factor_of chip.None = 2
factor_of chip.Wildcard = 2
factor_of chip.FreeHit = 2
factor_of chip.BenchBoost = 2

-- a slot wears the armband
abbrev pub armband_at : ℕ → Team → Armband
armband_at slot team = record { slot = slot; factor = factor_of team.chip }

-- the captain wears it; in an ended gameweek where he did not play the vice-captain does if he played, and else nobody
abbrev pub armband_of : Team → List Figures → Bool → Option Armband
armband_of team figures ended =
    if not ended || did_play figures team.captain then Some (armband_at team.captain team)
    else if did_play figures team.vice then Some (armband_at team.vice team)
    else None
