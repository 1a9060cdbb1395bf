use Rattle.season_entries.proofs.Sales.{rows_count_sales}
use Rattle.season_entries.proofs.laws.rows_count_sales.Goals as goal

pub returns : goal.returns
returns c = rows_count_sales c.rows_tell.ensures
