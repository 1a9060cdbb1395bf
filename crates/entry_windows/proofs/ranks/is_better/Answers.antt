use Rattle.std.proofs.Common.{◌≡◌, ◌+◌, ◌∙◌, ap, get_or, int_lt, nat_lt, of_z, pos, rules, sym, to_z, w32}
use Rattle.rule_book.specs.ClassicTable.{is_better}
use Rattle.rule_book.specs.HistoryTransfers.{counted_through}
use Rattle.rule_book.specs.PlayerFigures.{position_in}
use Rattle.entry_windows.specs.Courses.{row_at}
use Rattle.entry_windows.proofs.Better.{better_apart, better_same}
use Rattle.entry_windows.proofs.ranks.is_better.Goals as goal

pub returns-then-total-own-clause-value : goal.returns-then-total-own-clause-value
returns-then-total-own-clause-value g c = λ h stands.
    let course = c.args.course.now in
    let total = c.args.total in
    let counted = counted_through h (c.args.passed + 1) in
    let own = get_or course.totals c.from-place.result (pos 0) in
    let fits : to_z w32 (of_z w32 total) ≡ total = search rules in
    let own_fits : to_z w32 (of_z w32 own) ≡ own = search rules in
    (λ i. int_lt (own_fits i) (fits i))
    ∙ better_apart total own (nat_lt counted (get_or course.transfers c.from-place.result 0)) (λ same. c.if-total-own.true (ap (of_z w32) same))
    ∙ ap (λ k. is_better (0, total, counted) (row_at course k)) c.from-place.ensures

pub returns-clause-value : goal.returns-clause-value
returns-clause-value g c = λ h stands.
    let course = c.args.course.now in
    let total = c.args.total in
    let own = get_or course.totals c.from-place.result (pos 0) in
    let counted = counted_through h (c.args.passed + 1) in
    let fits : to_z w32 (of_z w32 total) ≡ total = search rules in
    let own_fits : to_z w32 (of_z w32 own) ≡ own = search rules in
    let same : total ≡ own = sym fits ∙ ap (to_z w32) c.if-total-own.false ∙ own_fits in
    ap (λ n. nat_lt n (get_or course.transfers c.from-place.result 0)) (c.counted_transfers.ensures.history (position_in c.args.seen.now.facts.players) h stands)
    ∙ better_same total own (nat_lt counted (get_or course.transfers c.from-place.result 0)) same
    ∙ ap (λ k. is_better (0, total, counted) (row_at course k)) c.from-place.ensures
