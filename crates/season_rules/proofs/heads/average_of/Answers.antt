use Rattle.std.proofs.Common.{◌≡◌, ℤ, w32, FitsSigned, to_z, of_z, sym, subst, rules}
use Rattle.std.proofs.lemmas.Int.{to_z-of_z}
use Rattle.rule_book.specs.FigureRange.{IsWithin}
use Rattle.season_rules.proofs.MeanFacts.{mean_near}
use Rattle.season_rules.proofs.heads.average_of.Goals as goal

pub returns-clause-near : goal.returns-clause-near
returns-clause-near c =
    let mean : ℤ = c.average.result in
    let fits : FitsSigned w32 mean = search rules in
    let same : to_z w32 (of_z w32 mean) ≡ mean = to_z-of_z w32 mean fits in
    subst (IsWithin 18000000) (sym same) (mean_near c.args.scores.now mean c.requires.some c.requires.near c.average.ensures.floor)
