use Rattle.std.proofs.Common.{sym, subst}
use Rattle.fpl_base.specs.Keeping.{KeysRise}
use Rattle.record_keepers.proofs.TreeLemmas.{records_rise}
use Rattle.record_keepers.proofs.in_memory.TreeKeeperKeeper.load.Goals as goal

pub returns-clause-rise : goal.returns-clause-rise
returns-clause-rise c = subst KeysRise (sym c.in_ok-copy_of_records.ensures) (records_rise c.self.inside.tree.entries c.self.invariant)
