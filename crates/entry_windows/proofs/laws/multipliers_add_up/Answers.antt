use Rattle.entry_windows.proofs.LawFacts.{multipliers_add}
use Rattle.entry_windows.proofs.laws.multipliers_add_up.Goals as goal

pub returns : goal.returns
returns c = multipliers_add
