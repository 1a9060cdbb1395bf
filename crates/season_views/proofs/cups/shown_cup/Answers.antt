use Rattle.std.proofs.Common.{◌≡◌, ap}
use Rattle.season_book.specs.declared.shown.Shown.TheVariants as shown_as
use Rattle.season_views.proofs.Counted.{ties_read}
use Rattle.season_views.proofs.cups.shown_cup.Goals as goal

pub returns-clause-value : goal.returns-clause-value
returns-clause-value g c entries are = ap shown_as.Cup (c.in_ok-cup.ensures.value entries are)

pub returns-clause-cost : goal.returns-clause-cost
returns-clause-cost g c entries are = ties_read _ _ _ (c.cup.ensures.cost entries are)

pub returns-in_err-cup-clause-cost : goal.returns-in_err-cup-clause-cost
returns-in_err-cup-clause-cost g c entries are = ties_read _ _ _ (c.cup.ensures.cost entries are)
