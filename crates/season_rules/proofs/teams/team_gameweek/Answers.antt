use Rattle.std.proofs.Common.{◌∙◌}
use Rattle.rule_book.specs.ScoreOfTeam.{score_of}
use Rattle.season_nodes.specs.BookFacts.{facts_of}
use Rattle.season_nodes.specs.Held.{held_values}
use Rattle.season_nodes.specs.Season.{ended, figures_of_fifteen}
use Rattle.season_rules.proofs.teams.team_gameweek.Goals as goal

pub returns-clause-value : goal.returns-clause-value
returns-clause-value g c =
    let b = facts_of c.args.books.now in
    let v = held_values c.args.cells.now in
    c.score.ensures.value
    ∙ (λ i. score_of (c.in-Some.ensures.team i) (figures_of_fifteen b v (c.in-Some.ensures.team i) c.args.gameweek) (ended b c.args.gameweek) (c.cost-cost.ensures.rows i))
