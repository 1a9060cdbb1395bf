use Rattle.std.proofs.Common.{arith, refl, sym}
use Rattle.rule_book.specs.declared.team.Pick.{Pick}
use Rattle.squad_rules.proofs.Copies.{copied_whole, copied_more}
use Rattle.squad_rules.proofs.squad.positions_of.Goals as goal

pub loop-place-init : goal.loop-place-init
loop-place-init c = record { all = sym c.type_inv.picks; front = refl }

pub loop-place-preserved : goal.loop-place-preserved
loop-place-preserved c =
    copied_more (λ (pick : Pick). pick.position) c.args.picks.now c.loop-place.place c.loop-place.positions c.index-picks-place.result (omega arith) c.loop-place.invariant

pub returns : goal.returns
returns c = copied_whole _ c.args.picks.now c.loop-place.place c.loop-place.positions (omega arith) c.loop-place.invariant
