use Rattle.std.proofs.Common.{◌<◌, arith, rules}
use Rattle.rule_book.specs.declared.cup.Bracket.{Bracket}
use Rattle.leagues_and_cups.proofs.CupTests.{no_cup, no_rule_broken}
use Rattle.leagues_and_cups.proofs.cup_draw.check_draw.Goals as goal

pub returns-then-not-can_be_played-clause-judged :
    goal.returns-then-not-can_be_played-clause-judged
returns-then-not-can_be_played-clause-judged c =
    let b : Bracket = record { start = c.args.start; slots = c.args.slots.now; coins = c.args.coins.now } in
    let later : c.args.locked < c.args.start = omega (arith, c.get.ensures.value) in
    no_cup b c.args.gameweeks c.args.locked later (search rules)

pub returns-clause-judged : goal.returns-clause-judged
returns-clause-judged c =
    let b : Bracket = record { start = c.args.start; slots = c.args.slots.now; coins = c.args.coins.now } in
    let later : c.args.locked < c.args.start = omega (arith, c.get.ensures.value) in
    no_rule_broken b c.args.gameweeks c.args.locked later (search rules)
