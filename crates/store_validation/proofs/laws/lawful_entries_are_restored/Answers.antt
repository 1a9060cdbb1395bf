use Rattle.store_validation.proofs.Lawful.{lawful_restored}
use Rattle.store_validation.proofs.laws.lawful_entries_are_restored.Goals as goal

pub returns : goal.returns
returns c = lawful_restored
