use Rattle.std.proofs.Common.{◌-◌, length, map, vec_len}
use Rattle.rule_book.specs.declared.player.Player.{Player}
use Rattle.season_running.specs.Standing.{players_in}
use Rattle.fpl_dreaming.proofs.FirstPlayers.{AreFirst}
use Rattle.fpl_dreaming.proofs.dreaming.players_of.Given as goal

abbrev pub decreases-loop-player : goal.decreases-loop-player
decreases-loop-player l = length (players_in l.host.rows.facts) - vec_len l.players

-- the first players are there
abbrev pub invariant-loop-player : goal.invariant-loop-player
invariant-loop-player l = AreFirst (map (λ (player : Player). player.id) (players_in l.host.rows.facts)) l.players.items
