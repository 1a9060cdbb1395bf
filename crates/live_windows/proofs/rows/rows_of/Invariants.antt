use Rattle.std.proofs.Common.{◌≡◌, ◌≤◌, ◌+◌, All, filter, map, take}
use Rattle.rule_book.specs.declared.player.Player.{Player}
use Rattle.rule_book.specs.FigureRange.{IsWithin}
use Rattle.squad_rules.specs.Elevens.{Row}
use Rattle.season_book.specs.DreamTeamWindow.{figures_of}
use Rattle.live_windows.proofs.rows.rows_of.Given as goal

abbrev pub invariant-loop-place : goal.invariant-loop-place
invariant-loop-place g l = record {
  value : l.rows.items ≡ map (λ (player : Player). (player.id, player.position, (figures_of l.seen.facts player.id l.gameweek).points)) (filter (λ (player : Player). (figures_of l.seen.facts player.id l.gameweek).played) (take l.place l.seen.facts.players));
  near : All (λ (row : Row). IsWithin 1000000 row.2) l.rows.items;
  cost : l.steps ≤ l.fn.steps + l.place;
}
