use Rattle.std.proofs.Common.{◌≡◌, ◌≤◌, ◌&&◌, ◌∙◌, nat_le, subst, sym}
use Rattle.std.proofs.lemmas.Bool.{and_parts, leb-true}
use Rattle.std.proofs.lemmas.Option.{cond_some}
use Rattle.std.proofs.lemmas.Result.{IfOk-weaker}
use Rattle.rule_book.specs.Calendar.{is_locked}
use Rattle.season_book.specs.DreamTeamWindow.{rows_of_gameweek, who_played}
use Rattle.live_windows.proofs.PlayedRows.{nobody_while_open, who_locked}
use Rattle.live_windows.proofs.dream.who_played.Goals as goal

pub rows_of-requires-clause-from_1 : goal.rows_of-requires-clause-from_1
rows_of-requires-clause-from_1 g c =
    let is = cond_some (nat_le 1 c.args.number && is_locked c.args.seen.now.facts.calendar c.args.number) c.args.number c.in-Some.gameweek (sym c.locked_gameweek.ensures ∙ c.in-Some.is) in
    subst (λ n. 1 ≤ n) is.1 c.requires.from_1

pub rows_of-requires-clause-locked : goal.rows_of-requires-clause-locked
rows_of-requires-clause-locked g c =
    let locked = c.args.seen.now.facts.calendar.locked in
    let is = cond_some (nat_le 1 c.args.number && nat_le c.args.number locked) c.args.number c.in-Some.gameweek (sym c.locked_gameweek.ensures ∙ c.in-Some.is) in
    subst (λ n. n ≤ locked) is.1 (leb-true c.args.number locked (and_parts (nat_le 1 c.args.number) (nat_le c.args.number locked) is.0).1)

pub returns-in-Some-clause-value : goal.returns-in-Some-clause-value
returns-in-Some-clause-value g c =
    let facts = c.args.seen.now.facts in
    IfOk-weaker c.rows_of.result (λ rows. rows.items ≡ rows_of_gameweek facts c.in-Some.gameweek) (λ rows. rows.items ≡ who_played facts c.args.number)
    (λ rows same. same ∙ who_locked facts c.args.number c.in-Some.gameweek (sym c.locked_gameweek.ensures ∙ c.in-Some.is)) c.rows_of.ensures.value

pub returns-in-None-clause-value : goal.returns-in-None-clause-value
returns-in-None-clause-value g c =
    c.new.ensures.items ∙ sym (nobody_while_open c.args.seen.now.facts c.args.number c.requires.from_1 (sym c.locked_gameweek.ensures ∙ c.in-None.is))
