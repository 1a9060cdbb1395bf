use Rattle.std.proofs.Common.{rules}
use Rattle.season_host.proofs.Followed.{locks_host}
use Rattle.season_host.proofs.following.pass.Goals as goal

pub follow_locks-followed-requires : goal.follow_locks-followed-requires
follow_locks-followed-requires g c κs within = (
  search rules,
  (
    c.requires.1.1,
    locks_host g.before c.args.house.now c.pass.new.self c.running.result.now c.args.now c.locked-first.result c.requires.1.0 c.running.ensures c.pass.ensures.rows c.locked-first.ensures,
  ),
)
