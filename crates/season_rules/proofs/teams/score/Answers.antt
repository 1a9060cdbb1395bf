use Rattle.std.proofs.Common.{List, ap, ◌∙◌}
use Rattle.rule_book.specs.declared.team_score.Figures.{Figures}
use Rattle.rule_book.specs.ScoreOfTeam.{score_of}
use Rattle.scoring.proofs.ScoreFacts.{score_is_the_one}
use Rattle.season_nodes.specs.BookFacts.{facts_of}
use Rattle.season_nodes.specs.Held.{held_values}
use Rattle.season_nodes.specs.Season.{figures_of_fifteen}
use Rattle.season_rules.proofs.teams.score.Goals as goal

pub returns-clause-value : goal.returns-clause-value
returns-clause-value g c =
    let team = c.args.team.now in
    let figures : List Figures = figures_of_fifteen (facts_of c.args.books.now) (held_values c.args.cells.now) team c.args.gameweek in
    (score_is_the_one team c.team_figures-figures.result c.has_ended.result c.args.cost c.team_score.result).0 c.team_score.ensures.score
    ∙ ap (λ those. score_of team those c.has_ended.result c.args.cost) {y = figures} c.team_figures-figures.ensures.value
    ∙ ap (λ ended. score_of team figures ended c.args.cost) c.has_ended.ensures
