use Rattle.std.proofs.Common.{◌≡◌, length, map, take}
use Rattle.season_views.proofs.entries.players_of.Given as goal

abbrev pub invariant-loop-place : goal.invariant-loop-place
invariant-loop-place l = (length l.players ≡ 15) × (take l.place l.players ≡ map (λ pick. pick.player) (take l.place l.team.picks))
