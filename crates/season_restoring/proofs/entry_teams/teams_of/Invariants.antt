use Rattle.fpl_base.specs.Keeping.{map_of}
use Rattle.rule_book.specs.PlayerFigures.{position_in}
use Rattle.season_restoring.specs.Restoring.{beside, placed}
use Rattle.season_restoring.proofs.Through.{IsOnTheWay}
use Rattle.season_restoring.proofs.entry_teams.teams_of.Given as goal

abbrev pub invariant-loop-number : goal.invariant-loop-number
invariant-loop-number l = IsOnTheWay (λ g. beside g (placed (position_in l.players) (map_of l.stored) l.entry g)) l.number l.teams.items
