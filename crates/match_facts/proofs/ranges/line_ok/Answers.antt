use Rattle.std.proofs.Common.{◌-◌, ◌<◌, ◌∙◌, arith, sym, rules}
use Rattle.rule_book.specs.Figures.{greatest_figures}
use Rattle.match_facts.proofs.FirstAbove.{found_within, none_above}
use Rattle.match_facts.proofs.ranges.line_ok.Goals as goal

within : (c : goal.In-Some) → c.in-Some.place < 28
within c = rw c.greatest_of.ensures at (found_within c.args.line.now.figures c.greatest_of.result c.in-Some.place (sym c.first_above.ensures ∙ c.in-Some.is))

pub overflow_cast-result : goal.overflow_cast-result
overflow_cast-result c = let small = within c in search rules

pub overflow_add-result : goal.overflow_add-result
overflow_add-result c = let small = within c in search rules

pub returns-in-None-clause-ranges : goal.returns-in-None-clause-ranges
returns-in-None-clause-ranges c =
    let none = rw c.greatest_of.ensures at (sym c.first_above.ensures ∙ c.in-None.is) in
    λ field first last. none_above c.args.line.now.figures (greatest_figures c.args.line.now) (field - 1) none (omega arith)
