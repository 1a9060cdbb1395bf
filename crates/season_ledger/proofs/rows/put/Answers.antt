use Rattle.std.proofs.Common.{arith}
use Rattle.std.proofs.lemmas.Grind.{common_steps}
use Rattle.season_ledger.proofs.Places.{put_set, put_push}
use Rattle.season_ledger.proofs.rows.put.Goals as goal

pub returns-then-place-len-clause-ok : goal.returns-then-place-len-clause-ok
returns-then-place-len-clause-ok c = grind (arith, common_steps, put_set c.args.rows.now.items c.args.g c.args.standing.now)

pub returns-in-Ok-clause-ok : goal.returns-in-Ok-clause-ok
returns-in-Ok-clause-ok c = grind (arith, common_steps, put_push c.args.rows.now.items c.args.g c.args.standing.now)
