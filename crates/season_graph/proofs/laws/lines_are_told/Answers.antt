use Rattle.season_graph.proofs.ToldFacts.{line_told}
use Rattle.season_graph.proofs.laws.lines_are_told.Goals as goal

pub returns : goal.returns
returns c b f row season among = line_told b season f row among
