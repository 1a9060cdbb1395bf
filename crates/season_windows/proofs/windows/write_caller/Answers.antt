use Rattle.std.proofs.Common.{◌≡◌, ◌≤◌, ◌<◌, ◌∙◌, None, Some, ap, arith, length, subst}
use Rattle.rule_book.specs.Entries.{entry_in}
use Rattle.season_book.specs.Book.{caller_number}
use Rattle.json_members.specs.Tokens.{tokens_of}
use Rattle.season_views.proofs.Written.{me_nobody, me_somebody, retold}
use Rattle.season_windows.proofs.windows.write_caller.Goals as goal

pub returns-in-Operator : goal.returns-in-Operator
returns-in-Operator g c = λ entries are.
    let caller = c.args.caller.now in
    let none : entry_in entries (caller_number caller) ≡ None = ap (λ k. entry_in entries (caller_number k)) c.in-Operator.is in
    retold (ap tokens_of (me_nobody entries caller c.args.last none)) c.write_me.ensures

pub returns-then-get-entries : goal.returns-then-get-entries
returns-then-get-entries g c = λ entries are.
    let seen = c.args.seen.now in
    let caller = c.args.caller.now in
    let e = c.in-Entry.entry in
    let past : length seen.managers.managers < e = omega (arith, c.get.ensures.value, c.entries.ensures, c.if-get-entries.true) in
    let absent = (c.entries_are_issued.ensures seen.facts.players seen.managers.managers entries e are).none past in
    let none : entry_in entries (caller_number caller) ≡ None = ap (λ k. entry_in entries (caller_number k)) c.in-Entry.is ∙ absent in
    retold (ap tokens_of (me_nobody entries caller c.args.last none)) c.write_me-then-get-entries.ensures

pub returns-else-get-entries : goal.returns-else-get-entries
returns-else-get-entries g c = λ entries are.
    let seen = c.args.seen.now in
    let caller = c.args.caller.now in
    let e = c.in-Entry.entry in
    let one : 1 ≤ e = subst (λ n. 1 ≤ n) c.get.ensures.value c.get.ensures.range in
    let few : e ≤ length seen.managers.managers = omega (arith, c.get.ensures.value, c.entries.ensures, c.if-get-entries.false) in
    let there = (c.entries_are_issued.ensures seen.facts.players seen.managers.managers entries e are).there one few in
    let own = c.entry-own.ensures entries are there.0 there.1 in
    let here : entry_in entries (caller_number caller) ≡ Some there.0 = ap (λ k. entry_in entries (caller_number k)) c.in-Entry.is ∙ there.1 in
    retold (ap tokens_of (me_somebody entries caller c.args.last there.0 c.entry-own.result.name.now c.entry-own.result.first here own.0 own.1)) c.write_me-in-Entry.ensures
