use Rattle.season_keeper.specs.Rows.{ShowEach}
use Rattle.season_keeper.proofs.pairs.shown_by.Given as goal

abbrev pub invariant-rows : goal.invariant-rows
invariant-rows l = ShowEach l.yielded l.all.items
