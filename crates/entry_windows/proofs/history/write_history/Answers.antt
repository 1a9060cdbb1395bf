use Rattle.std.proofs.Common.{length, sym, subst, ap, ◌∙◌}
use Rattle.rule_book.specs.Entries.{entry_in}
use Rattle.season_views.specs.Seen.{WritesShown}
use Rattle.season_book.specs.HistoryWindow.{history_window}
use Rattle.entry_windows.proofs.Due.{nothing_shown}
use Rattle.entry_windows.proofs.HistoryShown.{no_history}
use Rattle.entry_windows.proofs.Shown.{absent, one_of}
use Rattle.entry_windows.proofs.history.write_history.Goals as goal

pub returns-in-Some-clause-value : goal.returns-in-Some-clause-value
returns-in-Some-clause-value g c = λ entries are.
    let seen = c.args.seen.now in
    let e = c.args.entry in
    let one = one_of (length seen.managers.managers) e c.in-Some.there (sym c.in-Some.is ∙ c.issued.ensures) in
    let row = (c.entries_are_issued.ensures seen.facts.players seen.managers.managers entries e are).there one.one one.few in
    subst (λ k. WritesShown (history_window seen.facts entries k) c.write_issued.result c.args.out.now c.write_issued.new.out) one.same
    (c.write_issued.ensures.value entries are row.0 (ap (entry_in entries) one.same ∙ row.1))

pub returns-in-None-clause-value : goal.returns-in-None-clause-value
returns-in-None-clause-value g c = λ entries are.
    let seen = c.args.seen.now in
    let e = c.args.entry in
    let behind = (c.entries_are_issued.ensures seen.facts.players seen.managers.managers entries e are).none in
    nothing_shown (history_window seen.facts entries e) c.args.out.now c.args.out.now
    (no_history seen.facts entries e (absent entries (length seen.managers.managers) e behind (sym c.in-None.is ∙ c.issued.ensures)))
