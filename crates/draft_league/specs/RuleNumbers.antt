-- The numbers of the refusals of draft leagues.
use Rattle.std.specs.Prelude.{ℕ}
use Rattle.draft_league.specs.declared.rule.DraftRule.{DraftRule}
use Rattle.draft_league.specs.declared.rule.DraftRule.TheVariants as rule

abbrev pub number_of : DraftRule → ℕ
number_of (rule.Owned owner) = 57
number_of rule.DraftOver = 58
number_of rule.PositionFull = 59
number_of rule.DraftOpen = 60
number_of (rule.WaiveOrder gameweek) = 61
number_of rule.BidsFull = 62
number_of rule.BidNotHeld = 63
number_of rule.BidPosition = 64
