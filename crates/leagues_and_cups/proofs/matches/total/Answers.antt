use Rattle.std.proofs.Common.{pos, arith}
use Rattle.std.proofs.lemmas.Int.{ints, to_z-of_z}
use Rattle.std.proofs.lemmas.List.Sums.{fold_more}
use Rattle.std.proofs.lemmas.List.Elements.{All-get_or}
use Rattle.rule_book.specs.FigureRange.{IsWithin}
use Rattle.leagues_and_cups.proofs.matches.total.Goals as goal

pub loop-score-preserved : goal.loop-score-preserved
loop-score-preserved c =
    let near = All-get_or (IsWithin 18000000) c.args.scores.now c.loop-score.score-index (pos 0) c.loop-score-test.true c.requires.near in
    record {
      sum = grind (arith, ints, to_z-of_z, fold_more, near);
      low = omega (arith, ints, near);
      high = omega (arith, ints, near);
    }
