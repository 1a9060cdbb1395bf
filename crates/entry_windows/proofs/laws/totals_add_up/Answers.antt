use Rattle.entry_windows.proofs.LawFacts.{totals_add_up}
use Rattle.entry_windows.proofs.laws.totals_add_up.Goals as goal

pub returns : goal.returns
returns c = totals_add_up
