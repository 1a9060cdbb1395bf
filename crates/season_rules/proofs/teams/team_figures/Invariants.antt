use Rattle.std.proofs.Common.{◌≡◌, ◌≤◌, ◌+◌, if◌then◌else◌, All, length, map, take}
use Rattle.rule_book.specs.TeamScores.{IsModest}
use Rattle.season_nodes.specs.BookFacts.{facts_of}
use Rattle.season_nodes.specs.Held.{held_values}
use Rattle.season_nodes.specs.Season.{figures_held, is_there, no_figures}
use Rattle.season_nodes.specs.declared.nodes.Node.TheVariants as node
use Rattle.season_rules.proofs.teams.team_figures.Given as goal

abbrev pub invariant-loop-place : goal.invariant-loop-place
invariant-loop-place g l = record {
  long : length l.figures ≡ 15;
  made : take l.place l.figures ≡ map (λ pick. if is_there (facts_of l.books) pick.player then figures_held (held_values l.cells (node.PlayerGw pick.player l.gameweek)) else no_figures) (take l.place l.team.picks);
  modest : All IsModest l.figures;
  cost : l.steps ≤ l.fn.steps + l.place;
}
