use Rattle.std.proofs.Common.{◌≤◌, ◌+◌, ◌*◌, ◌&&◌, Some, None, nat_le, arith, length, subst, sym, ap, ◌∙◌, if◌then◌else◌}
use Rattle.season_book.specs.EntryTotals.{is_in}
use Rattle.league_windows.proofs.StandingsBefore.{is_behind, is_not_behind}
use Rattle.entry_windows.specs.EntrySummary.{summary_of}
use Rattle.entry_windows.proofs.summary.last_summary.Goals as goal

pub summary_in-requires-clause-locked : goal.summary_in-requires-clause-locked
summary_in-requires-clause-locked g c =
    let locked = c.args.seen.now.facts.calendar.locked in
    let is = is_behind (nat_le 1 locked) locked c.in-Some.last c.last_gameweek.result c.last_gameweek.ensures c.in-Some.is in
    omega (arith, is.1)

pub returns-in-Some-clause-value : goal.returns-in-Some-clause-value
returns-in-Some-clause-value g c = λ entries are row there.
    let facts = c.args.seen.now.facts in
    let locked = facts.calendar.locked in
    let e = c.args.entry in
    let is = is_behind (nat_le 1 locked) locked c.in-Some.last c.last_gameweek.result c.last_gameweek.ensures c.in-Some.is in
    c.summary_in.ensures.value entries are row there
    ∙ ap (λ g. if is_in row g then Some (summary_of facts entries (e, row) g) else None) (sym is.1)
    ∙ ap (λ b. if b && is_in row locked then Some (summary_of facts entries (e, row) locked) else None) (sym is.0)

pub returns-in-Some-clause-cost : goal.returns-in-Some-clause-cost
returns-in-Some-clause-cost g c =
    let seen = c.args.seen.now in
    let locked = seen.facts.calendar.locked in
    let n = length seen.managers.managers in
    let is = is_behind (nat_le 1 locked) locked c.in-Some.last c.last_gameweek.result c.last_gameweek.ensures c.in-Some.is in
    subst (λ g. c.summary_in.new.steps ≤ c.args.steps.now + (n + 1) * (2 * g) + n + 2) (sym is.1) c.summary_in.ensures.cost

pub returns-in-None-clause-value : goal.returns-in-None-clause-value
returns-in-None-clause-value g c = λ entries are row there.
    let facts = c.args.seen.now.facts in
    let locked = facts.calendar.locked in
    let not = is_not_behind (nat_le 1 locked) locked c.last_gameweek.result c.last_gameweek.ensures c.in-None.is in
    sym (ap (λ b. if b && is_in row locked then Some (summary_of facts entries (c.args.entry, row) locked) else None) not)
