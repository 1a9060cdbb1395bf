use Rattle.std.proofs.Common.{inl, inr, refl}
use Rattle.fpl_loading.proofs.FileLemmas.{shelf_failed}
use Rattle.fpl_run.proofs.load_request.load.Goals as goal

pub returns-in-Ok-clause-loads : goal.returns-in-Ok-clause-loads
returns-in-Ok-clause-loads g c = inr (c.in-Ok.commands.items, c.in-Ok.ensures.orders, c.in-Ok.ensures.read, c.load_all.ensures.loads)

pub returns-in-Err-clause-loads : goal.returns-in-Err-clause-loads
returns-in-Err-clause-loads g c = inl (c.in-Err.fault, c.in-Err.ensures.fault, c.in-Err.ensures.read, c.unloaded-status.ensures.told, refl, refl, refl)

pub returns-in-Err-clause-shelf : goal.returns-in-Err-clause-shelf
returns-in-Err-clause-shelf g c = λ is. shelf_failed _ _ _ c.in-Err.fault c.in-Err.ensures.cause (c.unloaded-status.ensures.shelf is)
