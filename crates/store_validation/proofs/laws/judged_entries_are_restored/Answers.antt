use Rattle.store_validation.proofs.EntriesJudged.{judged_restored}
use Rattle.store_validation.proofs.laws.judged_entries_are_restored.Goals as goal

pub returns : goal.returns
returns c = judged_restored
