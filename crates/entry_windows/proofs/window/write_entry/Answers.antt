use Rattle.std.proofs.Common.{◌≤◌, ◌+◌, length, sym, subst, ap, ◌∙◌}
use Rattle.rule_book.specs.Entries.{entry_in}
use Rattle.season_views.specs.Seen.{WritesShown}
use Rattle.season_views.proofs.Numbered.{as_many}
use Rattle.entry_windows.proofs.Due.{nothing_shown}
use Rattle.entry_windows.proofs.Shown.{absent, one_of}
use Rattle.season_book.specs.EntryWindow.{entry_window}
use Rattle.season_views.specs.EntryWindowReads.{reads_of_many}
use Rattle.entry_windows.proofs.WindowShown.{no_entry}
use Rattle.entry_windows.proofs.window.write_entry.Goals as goal

pub returns-in-Some-clause-value : goal.returns-in-Some-clause-value
returns-in-Some-clause-value g c = λ entries are.
    let seen = c.args.seen.now in
    let e = c.args.entry in
    let one = one_of (length seen.managers.managers) e c.in-Some.there (sym c.in-Some.is ∙ c.issued.ensures) in
    let row = (c.entries_are_issued.ensures seen.facts.players seen.managers.managers entries e are).there one.one one.few in
    subst (λ k. WritesShown (entry_window seen.facts entries seen.leagues k) c.write_issued.result c.args.out.now c.write_issued.new.out) one.same
    (c.write_issued.ensures.value entries are row.0 (ap (entry_in entries) one.same ∙ row.1))

pub returns-in-None-clause-value : goal.returns-in-None-clause-value
returns-in-None-clause-value g c = λ entries are.
    let seen = c.args.seen.now in
    let e = c.args.entry in
    let behind = (c.entries_are_issued.ensures seen.facts.players seen.managers.managers entries e are).none in
    nothing_shown (entry_window seen.facts entries seen.leagues e) c.args.out.now c.args.out.now
    (no_entry seen.facts entries seen.leagues e (absent entries (length seen.managers.managers) e behind (sym c.in-None.is ∙ c.issued.ensures)))

pub returns-in-Some-clause-cost : goal.returns-in-Some-clause-cost
returns-in-Some-clause-cost g c = λ entries are.
    let seen = c.args.seen.now in
    let many = as_many seen.facts.players seen.managers.managers entries are in
    let one = one_of (length seen.managers.managers) c.args.entry c.in-Some.there (sym c.in-Some.is ∙ c.issued.ensures) in
    subst (λ n. c.write_issued.new.steps ≤ c.args.steps.now + reads_of_many seen.facts n seen.leagues c.args.entry) many
    (subst (λ k. c.write_issued.new.steps ≤ c.args.steps.now + reads_of_many seen.facts (length seen.managers.managers) seen.leagues k) one.same c.write_issued.ensures.cost)
