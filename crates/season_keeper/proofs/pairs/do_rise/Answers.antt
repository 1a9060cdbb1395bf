use Rattle.std.proofs.Common.{rules, arith, subst}
use Rattle.std.proofs.lemmas.List.{take_all}
use Rattle.fpl_base.specs.Keeping.{KeysRise}
use Rattle.season_keeper.proofs.Pairing.{rise_more}
use Rattle.season_keeper.proofs.pairs.do_rise.Goals as goal

pub pairs-preserved : goal.pairs-preserved
pairs-preserved c = rise_more c.args.pairs.now c.pairs.place c.index-pairs-place.result (search rules) (search rules) c.pairs.invariant (c.if-not-goes_behind.ensures (search rules))

pub returns : goal.returns
returns c t = subst KeysRise (take_all c.pairs.place c.args.pairs.now (omega (arith, c.pairs-test.false))) c.pairs.invariant
