use Rattle.season_nodes.specs.BookFacts.{facts_of}
use Rattle.season_nodes.specs.Dependents.{gameweek_dependents}
use Rattle.season_nodes.specs.Held.{held}
use Rattle.season_nodes.specs.IndexFacts.{holders_in}
use Rattle.season_nodes.specs.Season.{is_live}
use Rattle.season_graph.proofs.GameweekFacts.{refreshed_numbered}
use Rattle.season_graph.proofs.holding.refresh_holding.Goals as goal

pub loop-number-preserved : goal.loop-number-preserved
loop-number-preserved c = refreshed_numbered (is_live (facts_of c.args.books.now)) (λ g. gameweek_dependents (holders_in c.args.index.now c.args.player g) g) c.loop-number.number
    (held c.args.cells.now) (held c.loop-number.cells) (held c.refresh_holders_numbered.new.cells) c.loop-number.invariant c.in_ok-refresh_holders_numbered.ensures
