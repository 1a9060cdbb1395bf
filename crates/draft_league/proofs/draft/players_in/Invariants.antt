use Rattle.std.proofs.Common.{◌≡◌, eqb, map, take}
use Rattle.std.specs.List.{filter}
use Rattle.draft_league.specs.Squads.{player_in}
use Rattle.draft_league.specs.declared.kinds.Holding.{Holding}
use Rattle.draft_league.proofs.draft.players_in.Given as goal

abbrev pub invariant-loop-holding : goal.invariant-loop-holding
invariant-loop-holding l = l.players.items ≡ map player_in (filter (λ (holding : Holding). eqb holding.member l.member) (take l.holding-index l.held))
