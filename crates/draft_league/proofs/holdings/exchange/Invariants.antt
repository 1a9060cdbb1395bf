use Rattle.std.proofs.Common.{◌≡◌, ◌++◌, cond, eqb, map, take, drop}
use Rattle.draft_league.specs.declared.kinds.Holding.{Holding}
use Rattle.draft_league.proofs.holdings.exchange.Given as goal

abbrev pub invariant-loop-holding : goal.invariant-loop-holding
invariant-loop-holding l =
    l.held ≡ map (λ (holding : Holding). record holding { player = cond (eqb holding.player l.out) l.into holding.player }) (take l.holding-index l.initial.held) ++ drop l.holding-index l.initial.held
