use Rattle.std.proofs.Common.{◌≤◌, rules, subst}
use Rattle.rule_book.specs.Players.{ArePlayers}
use Rattle.entry_windows.specs.Courses.{IsCourse}
use Rattle.entry_windows.proofs.Compared.{race_is}
use Rattle.entry_windows.proofs.Own.{of_entry}
use Rattle.entry_windows.proofs.ranks.race.Goals as goal

pub returns-clause-value : goal.returns-clause-value
returns-clause-value g c = λ entries are row there.
    let seen = c.args.seen.now in
    let e = c.args.entry in
    let through = c.args.through in
    let one : 1 ≤ e = search rules in
    let lawful : ArePlayers seen.facts.players = subst ArePlayers c.players.ensures c.len-count.ensures.lawful in
    let own = of_entry seen.facts seen.managers entries e row (λ h. IsCourse seen.facts h through c.course-course.result) lawful one are there c.course-course.ensures.value in
    race_is seen.facts entries e row through (record { course = c.course-course.result; ranks = c.ranks-ranks.result }) own (c.ranks-ranks.ensures.value entries are)
