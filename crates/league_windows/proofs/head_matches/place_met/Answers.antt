use Rattle.std.proofs.Common.{◌<◌, ◌∙◌, ap, arith, length, sym}
use Rattle.rule_book.specs.Opponents.{opponent_of}
use Rattle.season_book.specs.HeadMatches.{opponent_place}
use Rattle.league_windows.proofs.head_matches.place_met.Goals as goal

pub opponent-requires : goal.opponent-requires
opponent-requires c =
    let long = ap length c.order-order.ensures.value in
    let some : 0 < length c.order-order.result.now = omega (arith, long, c.requires) in
    record { some = c.order-order.ensures.two some; few = c.order-order.ensures.few; within = omega (arith, long, c.requires, c.from-2.ensures) }

pub returns-in-Place : goal.returns-in-Place
returns-in-Place c =
    let n = length c.order-order.result.now in
    let long = ap length c.order-order.ensures.value in
    let some : 0 < n = omega (arith, long, c.requires) in
    let within : c.from-2.result < n = omega (arith, long, c.requires, c.from-2.ensures) in
    let only = (c.opponent_is_the_one.ensures n c.from.result c.from-2.result c.opponent.result (c.order-order.ensures.two some) within).0 c.opponent.ensures in
    let round = c.from.ensures in
    let place = c.from-2.ensures in
    ap (opponent_place n) (sym c.in-Place.is ∙ only) ∙ (λ j. opponent_place (long j) (opponent_of (long j) (round j) (place j)))

pub returns-in-Average : goal.returns-in-Average
returns-in-Average c =
    let n = length c.order-order.result.now in
    let long = ap length c.order-order.ensures.value in
    let some : 0 < n = omega (arith, long, c.requires) in
    let within : c.from-2.result < n = omega (arith, long, c.requires, c.from-2.ensures) in
    let only = (c.opponent_is_the_one.ensures n c.from.result c.from-2.result c.opponent.result (c.order-order.ensures.two some) within).0 c.opponent.ensures in
    let round = c.from.ensures in
    let place = c.from-2.ensures in
    ap (opponent_place n) (sym c.in-Average.is ∙ only) ∙ (λ j. opponent_place (long j) (opponent_of (long j) (round j) (place j)))
