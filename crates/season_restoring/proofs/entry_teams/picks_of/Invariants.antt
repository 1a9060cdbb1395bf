use Rattle.std.proofs.Common.{◌≡◌, length, map, take}
use Rattle.rule_book.specs.PlayerFigures.{position_in}
use Rattle.season_restoring.specs.Restoring.{pick_placed}
use Rattle.season_restoring.proofs.entry_teams.picks_of.Given as goal

abbrev pub invariant-loop-place : goal.invariant-loop-place
invariant-loop-place l = (length l.placed ≡ 15) × (take l.place l.placed ≡ map (pick_placed (position_in l.players)) (take l.place l.picks))
