use Rattle.manager_book.proofs.Alike.{rows_refuse_alike}
use Rattle.manager_book.proofs.laws.rows_refuse_alike.Goals as goal

pub returns : goal.returns
returns c = rows_refuse_alike c.rows_tell.ensures c.told_values.ensures.team c.told_values.ensures.first
