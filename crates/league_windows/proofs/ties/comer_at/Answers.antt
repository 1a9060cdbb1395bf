use Rattle.std.proofs.Common.{◌≡◌, ◌<◌, ◌+◌, ◌-◌, ◌∙◌, arith}
use Rattle.rule_book.specs.CupRounds.{rounds_of}
use Rattle.league_windows.proofs.ComersTold.{as_many_rounds, comers_told}
use Rattle.league_windows.proofs.ties.comer_at.Goals as goal

pub returns-then-from-through : goal.returns-then-from-through
returns-then-from-through c = λ side locked told.
    absurd (omega (arith, as_many_rounds c.args.bracket.now side locked c.args.through.now told, c.from.ensures, c.requires))

pub returns : goal.returns
returns c = λ side locked told.
    let before = c.args.before in
    let number : 1 + (c.from-2.result - 1) ≡ before = omega (arith, c.if-before-eq0.false, c.from-2.ensures) in
    let below : c.from-2.result - 1 < rounds_of c.args.bracket.now = omega (arith, c.if-before-eq0.false, c.requires, c.from-2.ensures) in
    c.winner_at.ensures
    ∙ comers_told c.args.bracket.now side locked c.args.through.now told before (c.from-2.result - 1) c.args.place c.index-through-from.result number below c.index-through-from.is
