use Rattle.std.proofs.Common.{◌≤◌, ◌+◌, ◌==◌, ◌∙◌, ap, arith, length, nat_lt, refl, subst, sym}
use Rattle.std.specs.Option.{option_and_then, option_map}
use Rattle.rule_book.specs.UpTo.{start_of}
use Rattle.season_book.specs.Book.{EntryFacts}
use Rattle.season_views.specs.Seen.{OfEachSeen, ShowsEach}
use Rattle.season_book.specs.TransfersWindow.{transfers_data, transfers_window}
use Rattle.season_views.specs.TransfersWindowReads.{transfers_window_reads}
use Rattle.league_windows.proofs.TransfersDue.{issued_is, none_issued}
use Rattle.league_windows.proofs.WindowShown.{hidden}
use Rattle.league_windows.proofs.transfers_window.write_transfers.Goals as goal

pub write_if_registered-requires : goal.write_if_registered-requires
write_if_registered-requires g c =
    let n = length c.args.seen.now.managers.managers in
    let e = c.args.number in
    let is = issued_is n e c.in-Some.entry (e == 0) (nat_lt n e) refl refl (sym c.in-Some.is ∙ c.issued.ensures) in
    subst (λ k. k ≤ n) (sym is.0) is.2

pub returns-in-Some-clause-value : goal.returns-in-Some-clause-value
returns-in-Some-clause-value g c =
    let seen = c.args.seen.now in
    let n = length seen.managers.managers in
    let e = c.args.number in
    let is = issued_is n e c.in-Some.entry (e == 0) (nat_lt n e) refl refl (sym c.in-Some.is ∙ c.issued.ensures) in
    subst (λ k. ShowsEach seen (λ entries. transfers_window seen.facts entries k) c.write_if_registered.result c.args.out.now c.write_if_registered.new.out) is.0 c.write_if_registered.ensures.value

pub returns-in-Some-clause-cost : goal.returns-in-Some-clause-cost
returns-in-Some-clause-cost g c =
    let seen = c.args.seen.now in
    let n = length seen.managers.managers in
    let e = c.args.number in
    let is = issued_is n e c.in-Some.entry (e == 0) (nat_lt n e) refl refl (sym c.in-Some.is ∙ c.issued.ensures) in
    subst (λ k. OfEachSeen seen (λ entries. c.write_if_registered.new.steps ≤ c.args.steps.now + transfers_window_reads entries k)) is.0 c.write_if_registered.ensures.cost

pub returns-in-None-clause-value : goal.returns-in-None-clause-value
returns-in-None-clause-value g c = λ entries are.
    let seen = c.args.seen.now in
    let n = length seen.managers.managers in
    let e = c.args.number in
    let law = c.entries_are_issued.ensures seen.facts.players seen.managers.managers entries e are in
    let none = none_issued entries n e (e == 0) (nat_lt n e) refl refl (sym c.in-None.is ∙ c.issued.ensures) law.none in
    hidden (transfers_window seen.facts entries e) c.args.out.now
    (ap (option_and_then (λ (row : EntryFacts). option_map (transfers_data seen.facts e row.history) (start_of row.history))) none)

pub returns-in-None-clause-cost : goal.returns-in-None-clause-cost
returns-in-None-clause-cost g c = λ entries are. omega arith
