use Rattle.std.proofs.Common.{rules, take_all, ap, ◌∙◌, w32, FitsSigned}
use Rattle.std.proofs.lemmas.Int.{to_z-of_z}
use Rattle.rule_book.specs.Bonus.{bonus_of}
use Rattle.scoring.specs.Levels.{bonus_by}
use Rattle.scoring.proofs.LevelLemmas.{one_more}
use Rattle.scoring.proofs.levels.BonusLevels.of.Goals as goal

-- The number is passed on by value, so it is seen through its bits and back.
pub loop-row-preserved : goal.loop-row-preserved
loop-row-preserved c = λ own.
    let fits : FitsSigned w32 c.row-item.result.1 = search rules in
    let less = rw (to_z-of_z w32 c.row-item.result.1 fits) at (c.add.ensures own) in
    one_more c.args.table.now c.loop-row.row-index c.row-item.result own (bonus_by c.loop-row.levels own) (bonus_by c.add.new.self own)
    c.loop-row-test.true c.row-item.is (c.loop-row.invariant own) less

pub returns : goal.returns
returns c = λ own. c.loop-row.invariant own ∙ ap (λ xs. bonus_of xs own) (take_all c.loop-row.row-index c.args.table.now c.loop-row-test.false)
