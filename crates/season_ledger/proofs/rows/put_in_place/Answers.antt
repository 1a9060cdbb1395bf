use Rattle.std.proofs.Common.{arith}
use Rattle.std.proofs.lemmas.Grind.{common_steps}
use Rattle.season_ledger.proofs.Places.{put_set}
use Rattle.season_ledger.proofs.rows.put_in_place.Goals as goal

pub returns : goal.returns
returns c = grind (arith, common_steps, put_set c.args.rows.now.items c.args.g c.args.standing.now)
