use Rattle.std.proofs.Common.{◌≤◌, arith, length, rules}
use Rattle.rule_book.specs.Cups.{IsCup}
use Rattle.leagues_and_cups.proofs.RoundCases.{no_less}
use Rattle.leagues_and_cups.proofs.cup_draw.can_be_played.Goals as goal

not_cup : (c : goal.Then-get-rounds) → IsCup (record { start = c.args.start; slots = c.args.slots.now; coins = c.args.coins.now }) c.args.gameweeks → ⊥
not_cup c cup =
    let rounds = cup.rounds in
    let le : c.in-Some.rounds ≤ rounds.0 = no_less rounds.0 c.in-Some.rounds (length c.args.slots.now) rounds.3 c.in-Some.ensures.some.2 in
    omega (arith, rounds.4, c.get.ensures.value)

pub returns-then-get-rounds : goal.returns-then-get-rounds
returns-then-get-rounds c = (search rules, (λ cup. absurd (not_cup c cup)))
