use Rattle.std.proofs.Common.{ap, arith, cond, eqb, get_or}
use Rattle.std.proofs.lemmas.List.Edits.{map_over_more}
use Rattle.draft_league.specs.declared.kinds.Holding.{Holding}
use Rattle.draft_league.proofs.holdings.exchange.Goals as goal

pub loop-holding-preserved : goal.loop-holding-preserved
loop-holding-preserved c =
    let f : Holding → Holding = λ holding. record holding { player = cond (eqb holding.player c.args.out) c.args.into holding.player } in
    let place = c.loop-holding.holding-index in
    rw c.behind-holding.ensures
    (map_over_more f c.args.held.now c.loop-holding.held place (get_or c.loop-holding.held place c.holding-item.result) (omega arith) c.loop-holding.invariant
    (ap (λ (other : Holding). get_or c.loop-holding.held place other) c.holding-item.is))
