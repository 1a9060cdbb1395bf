use Rattle.std.proofs.Common.{sym, subst, List, ℕ}
use Rattle.rule_book.specs.Elevens.{IsFinal}
use Rattle.scoring.proofs.OneEleven.{same_final}
use Rattle.scoring.proofs.eleven.has_one_eleven.Goals as goal

pub returns : goal.returns
returns c =
    let P : List ℕ → Type 0 = IsFinal c.args.team.now c.args.figures.now c.args.ended in
    let there = c.final_eleven.ensures.assigned in
    (c.final_eleven.result.slots, λ eleven. (λ f. same_final _ _ _ _ _ f there, λ e. subst P (sym e) there))
