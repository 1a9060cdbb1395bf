use Rattle.std.proofs.Common.{◌≡◌, ◌+◌, ◌∙◌, ◌&&◌, true, false, ap, ap₂, of_z, rules, sym, to_z, w32, if◌then◌else◌}
use Rattle.rule_book.specs.ClassicTable.{is_better}
use Rattle.rule_book.specs.HistoryTeam.{is_begun}
use Rattle.rule_book.specs.HistoryTransfers.{counted_through}
use Rattle.entry_windows.specs.Courses.{row_at}
use Rattle.season_book.specs.EntryTotals.{total_through}
use Rattle.entry_windows.proofs.ranks.ahead.Goals as goal

pub returns-then-not-is_in-clause-value : goal.returns-then-not-is_in-clause-value
returns-then-not-is_in-clause-value g c = λ h stands so_far.
    let next = c.args.passed + 1 in
    let out : is_begun h next ≡ false = sym (c.is_in.ensures h stands) ∙ c.if-not-is_in.true in
    sym (ap (λ b. if b && is_better (0, total_through c.args.seen.now.facts h next, counted_through h next) (row_at c.args.course.now c.args.passed) then 1 else 0) out)

pub returns-then-is_better-clause-value : goal.returns-then-is_better-clause-value
returns-then-is_better-clause-value g c = λ h stands so_far.
    let next = c.args.passed + 1 in
    let row = row_at c.args.course.now c.args.passed in
    let there : is_begun h next ≡ true = sym (c.is_in.ensures h stands) ∙ c.if-not-is_in.false in
    let fits : to_z w32 (of_z w32 c.args.total) ≡ c.args.total = search rules in
    let better : is_better (0, total_through c.args.seen.now.facts h next, counted_through h next) row ≡ true =
    sym (c.is_better.ensures.value h stands ∙ ap (λ t. is_better (0, t, counted_through h next) row) (fits ∙ so_far)) ∙ c.if-is_better.true in
    sym (ap₂ (λ a b. if a && b then 1 else 0) there better)

pub returns-else-is_better-clause-value : goal.returns-else-is_better-clause-value
returns-else-is_better-clause-value g c = λ h stands so_far.
    let next = c.args.passed + 1 in
    let row = row_at c.args.course.now c.args.passed in
    let there : is_begun h next ≡ true = sym (c.is_in.ensures h stands) ∙ c.if-not-is_in.false in
    let fits : to_z w32 (of_z w32 c.args.total) ≡ c.args.total = search rules in
    let worse : is_better (0, total_through c.args.seen.now.facts h next, counted_through h next) row ≡ false =
    sym (c.is_better.ensures.value h stands ∙ ap (λ t. is_better (0, t, counted_through h next) row) (fits ∙ so_far)) ∙ c.if-is_better.false in
    sym (ap₂ (λ a b. if a && b then 1 else 0) there worse)
