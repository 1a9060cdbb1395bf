use Rattle.std.proofs.Common.{◌≤◌, ◌+◌, ◌&&◌, ◌∙◌, ap, nat_le, refl, subst, sym, Some}
use Rattle.std.proofs.lemmas.Bool.{and_parts, leb-true}
use Rattle.std.proofs.lemmas.Option.{cond_some}
use Rattle.json_members.specs.Tokens.{tokens_of}
use Rattle.rule_book.specs.Calendar.{is_locked}
use Rattle.season_views.proofs.Written.{retold}
use Rattle.season_views.specs.Seen.{WritesShown}
use Rattle.season_book.specs.LiveWindow.{live_data}
use Rattle.season_views.specs.LiveWindowReads.{live_reads}
use Rattle.live_windows.proofs.PlayersAre.{nobody_is}
use Rattle.live_windows.proofs.live.write_there.Goals as goal

pub write_locked-requires-clause-from_1 : goal.write_locked-requires-clause-from_1
write_locked-requires-clause-from_1 g c =
    let is = cond_some (nat_le 1 c.args.number && is_locked c.args.seen.now.facts.calendar c.args.number) c.args.number c.in-Some.gameweek (sym c.locked_gameweek.ensures ∙ c.in-Some.is) in
    subst (λ n. 1 ≤ n) is.1 c.requires.from_1

pub write_locked-requires-clause-locked : goal.write_locked-requires-clause-locked
write_locked-requires-clause-locked g c =
    let locked = c.args.seen.now.facts.calendar.locked in
    let is = cond_some (nat_le 1 c.args.number && nat_le c.args.number locked) c.args.number c.in-Some.gameweek (sym c.locked_gameweek.ensures ∙ c.in-Some.is) in
    subst (λ n. n ≤ locked) is.1 (leb-true c.args.number locked (and_parts (nat_le 1 c.args.number) (nat_le c.args.number locked) is.0).1)

pub returns-in-Some-clause-value : goal.returns-in-Some-clause-value
returns-in-Some-clause-value g c =
    let facts = c.args.seen.now.facts in
    let is = cond_some (nat_le 1 c.args.number && is_locked facts.calendar c.args.number) c.args.number c.in-Some.gameweek (sym c.locked_gameweek.ensures ∙ c.in-Some.is) in
    subst (λ n. WritesShown (Some (live_data facts n)) c.write_locked.result c.args.out.now c.write_locked.new.out) (sym is.1) c.write_locked.ensures.value

pub returns-in-Some-clause-cost : goal.returns-in-Some-clause-cost
returns-in-Some-clause-cost g c =
    let facts = c.args.seen.now.facts in
    let is = cond_some (nat_le 1 c.args.number && is_locked facts.calendar c.args.number) c.args.number c.in-Some.gameweek (sym c.locked_gameweek.ensures ∙ c.in-Some.is) in
    subst (λ n. c.write_locked.new.steps ≤ c.args.steps.now + live_reads facts n) (sym is.1) c.write_locked.ensures.cost

pub returns-in_ok-write_nobody-in-None-clause-value : goal.returns-in_ok-write_nobody-in-None-clause-value
returns-in_ok-write_nobody-in-None-clause-value g c =
    let wrote = retold (ap tokens_of (nobody_is c.args.seen.now.facts c.args.number c.requires.from_1 (sym c.locked_gameweek.ensures ∙ c.in-None.is))) c.in_ok-write_nobody-in-None.ensures in
    (refl, wrote.tokens, wrote.before)
