use Rattle.std.proofs.Common.{◌≡◌, ◌≤◌, ◌+◌, ◌∙◌, Option, Some, ap, arith, count_by, rules, subst, sym}
use Rattle.std.specs.Option.{option_map_or}
use Rattle.rule_book.specs.EntryRecords.{sales_in}
use Rattle.rule_book.specs.Entries.{entry_in}
use Rattle.rule_book.specs.HistoryTransfers.{is_swap}
use Rattle.rule_book.specs.Totals.{gameweeks}
use Rattle.rule_book.specs.UpTo.{start_of}
use Rattle.manager_book.specs.Managers.{sales_of}
use Rattle.season_book.specs.Book.{EntryFacts}
use Rattle.season_book.specs.Windows.{listed}
use Rattle.season_entries.specs.Entries.{AreSold}
use Rattle.season_book.specs.TransfersWindow.{latest_of, transfer_row, transfers_window}
use Rattle.season_views.specs.TransfersWindowReads.{transfers_window_reads}
use Rattle.league_windows.proofs.SalesCounted.{as_many_swaps}
use Rattle.league_windows.proofs.TransfersDue.{none_due, transfers_due}
use Rattle.league_windows.proofs.WindowShown.{hidden, shown_if}
use Rattle.league_windows.proofs.transfers_window.write_if_registered.Goals as goal

pub returns-in-Some-clause-value : goal.returns-in-Some-clause-value
returns-in-Some-clause-value g c = λ entries are.
    let seen = c.args.seen.now in
    let e = c.args.entry in
    let one : 1 ≤ e = search rules in
    let law = (c.entries_are_issued.ensures seen.facts.players seen.managers.managers entries e are).there one c.requires in
    let entry : EntryFacts = law.0 in
    let told = c.entry.ensures entries are entry law.1 in
    let started : Some c.in-Some.first ≡ start_of entry.history = sym c.in-Some.is ∙ told.1 in
    let sales = c.sales-sales.result.now in
    let sold : AreSold sales entry.history = subst (λ s. AreSold s entry.history) (sym c.sales-sales.ensures.sales) law.2.sales in
    let from : c.get.result + 1 ≡ c.in-Some.first + 1 = ap (λ k. k + 1) c.get.ensures.value in
    let to : c.locked-locked.result ≡ seen.facts.calendar.locked = c.locked-locked.ensures.value ∙ ap (λ calendar. calendar.locked) c.calendar.ensures in
    shown_if (transfers_window seen.facts entries e) (listed (transfer_row e) (latest_of (sales_in sales) (gameweeks (c.get.result + 1) c.locked-locked.result)))
    c.write_latest.result c.is_shown.result c.args.out.now c.write_latest.new.out c.is_shown.ensures
    (transfers_due seen.facts e (entry_in entries e) entry law.1 c.in-Some.first (c.get.result + 1) c.locked-locked.result sales started from to sold) c.write_latest.ensures

pub returns-in-Some-clause-cost : goal.returns-in-Some-clause-cost
returns-in-Some-clause-cost g c = λ entries are.
    let seen = c.args.seen.now in
    let e = c.args.entry in
    let one : 1 ≤ e = search rules in
    let law = (c.entries_are_issued.ensures seen.facts.players seen.managers.managers entries e are).there one c.requires in
    let entry : EntryFacts = law.0 in
    let reads : transfers_window_reads entries e ≡ count_by (λ event. is_swap event.deed) entry.history =
    ap (λ (o : Option EntryFacts). option_map_or (λ (row : EntryFacts). count_by (λ event. is_swap event.deed) row.history) o 0) law.1 in
    let many = as_many_swaps (sales_of seen.managers e) entry.history law.2.sales in
    let counted = c.sales-sales.ensures.counted in
    omega (arith, reads, many, counted)

pub returns-in-None-clause-value : goal.returns-in-None-clause-value
returns-in-None-clause-value g c = λ entries are.
    let seen = c.args.seen.now in
    let e = c.args.entry in
    let one : 1 ≤ e = search rules in
    let law = (c.entries_are_issued.ensures seen.facts.players seen.managers.managers entries e are).there one c.requires in
    let entry : EntryFacts = law.0 in
    let told = c.entry.ensures entries are entry law.1 in
    hidden (transfers_window seen.facts entries e) c.args.out.now (none_due seen.facts e (entry_in entries e) entry law.1 (sym c.in-None.is ∙ told.1))

pub returns-in-None-clause-cost : goal.returns-in-None-clause-cost
returns-in-None-clause-cost g c = λ entries are. omega arith
