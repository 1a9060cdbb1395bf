use Rattle.std.proofs.Common.{◌≤◌, ◌<◌, ap, arith, length, subst, sym}
use Rattle.manager_book.specs.Managers.{season_of}
use Rattle.season_book.specs.Book.{caller_number}
use Rattle.season_entries.specs.Deeds.{rows_refusal}
use Rattle.season_running.specs.Standing.{Plays, Running}
use Rattle.season_running.proofs.AnswerFacts.{deed_refusal_is}
use Rattle.season_running.proofs.RuledFacts.{deed_ruled, nobody_ruled}
use Rattle.season_running.proofs.running.RunningSeason.judge_deed.Goals as goal

pub returns-then-get-entries-clause-ruled : goal.returns-then-get-entries-clause-ruled
returns-then-get-entries-clause-ruled c = λ operator now book plays.
    let running : Running = record { facts = c.self.inside.season; managers = c.self.inside.managers.managers; leagues = c.self.inside.leagues; cups = c.self.inside.cups } in
    let plays_here : Plays running book = subst (λ r. Plays r book) (sym c.self.view_is) plays in
    let one : 1 ≤ c.in-Entry.entry = subst (λ n. 1 ≤ n) c.get.ensures.value c.get.ensures.range in
    let few : c.in-Entry.entry ≤ length running.managers = omega (arith, c.get.ensures.value, c.entries.ensures.count, c.if-get-entries.true) in
    deed_ruled operator book c.args.caller.now now c.args.command.now running plays_here c.entries_are_issued.ensures c.in-Entry.entry c.judge_deed.result
    c.requires.deed (ap caller_number c.in-Entry.is) one few c.judge_deed.ensures.books

pub returns-else-get-entries-clause-ruled : goal.returns-else-get-entries-clause-ruled
returns-else-get-entries-clause-ruled c = λ operator now book plays.
    let running : Running = record { facts = c.self.inside.season; managers = c.self.inside.managers.managers; leagues = c.self.inside.leagues; cups = c.self.inside.cups } in
    let plays_here : Plays running book = subst (λ r. Plays r book) (sym c.self.view_is) plays in
    let past : length running.managers < c.in-Entry.entry = omega (arith, c.get.ensures.value, c.entries.ensures.count, c.if-get-entries.false) in
    nobody_ruled operator book c.args.caller.now now c.args.command.now running plays_here c.entries_are_issued.ensures c.in-Entry.entry
    c.requires.deed (ap caller_number c.in-Entry.is)
    ((c.entries_are_issued.ensures running.facts.players running.managers book.entries c.in-Entry.entry plays_here.entries).none past)

pub returns-then-get-entries-clause-refusal : goal.returns-then-get-entries-clause-refusal
returns-then-get-entries-clause-refusal c =
    let season = c.self.inside.season in
    let managers = c.self.inside.managers in
    deed_refusal_is season (rows_refusal season (season_of managers c.in-Entry.entry) c.args.command.now) c.args.command.now c.judge_deed.result
    c.judge_deed.ensures.rows
