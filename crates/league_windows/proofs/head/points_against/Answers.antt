use Rattle.std.proofs.Common.{◌≡◌, ◌≤◌, ◌<◌, ◌-◌, true, length, get_or, rules, arith, of_z, to_z, w32, sym, ap, subst, ◌∙◌}
use Rattle.std.specs.List.{slice_index}
use Rattle.std.proofs.lemmas.List.{get_or_default}
use Rattle.rule_book.specs.LeagueRows.{points_against}
use Rattle.rule_book.specs.Opponents.{opponent_of}
use Rattle.rule_book.specs.Players.{ArePlayers}
use Rattle.season_book.specs.LeagueViews.{net_in}
use Rattle.season_nodes.specs.Rounds.{has_average}
use Rattle.season_nodes.specs.RoundLaws.{met_average, met_place}
use Rattle.season_views.specs.Cells.{books_seen}
use Rattle.league_windows.proofs.AverageFacts.{average_is, average_lives}
use Rattle.league_windows.proofs.head.points_against.Goals as goal

pub returns-in-Place-clause-value : goal.returns-in-Place-clause-value
returns-in-Place-clause-value g c entries are =
    let league = c.args.league.now in
    let net = net_in c.args.seen.now.facts entries in
    let order = c.order-order.ensures.value in
    let within : c.args.place < length c.order-order.result.now = subst (λ xs. c.args.place < length xs) (sym order) c.requires.within in
    let two : 2 ≤ length c.order-order.result.now = c.order-order.ensures.two (omega (arith, within)) in
    let told = (c.opponent_is_the_one.ensures (length c.order-order.result.now) c.from-round.result c.args.place c.opponent.result two within).0 c.opponent.ensures in
    let last = c.get.ensures.value in
    let start = c.get-2.ensures.value ∙ c.start.ensures in
    let round : c.from-round.result ≡ c.args.last - league.start = c.from-round.ensures ∙ (λ i. last i - start i) in
    let meets : opponent_of (length league.order) (c.args.last - league.start) c.args.place ≡ c.opponent.result = sym (told ∙ (λ i. opponent_of (length (order i)) (round i) c.args.place)) in
    let other = c.in-Place.other in
    let there = (met_place (length league.order) (c.args.last - league.start) c.args.place other c.requires.within (meets ∙ c.in-Place.is)).0 in
    let here : other < length c.order-order.result.now = subst (λ xs. other < length xs) (sym order) there in
    let entry : c.index-order-other.result ≡ slice_index league.order other =
    c.index-order-other.is ∙ get_or_default c.order-order.result.now other c.index-order-other.result 0 here ∙ ap (λ xs. get_or xs other 0) order in
    let fits : to_z w32 (of_z w32 c.net.result) ≡ c.net.result = search rules in
    fits ∙ c.net.ensures.value entries are ∙ ap (λ e. net e c.args.last) entry
    ∙ ap (points_against net league.order c.args.last) (sym (meets ∙ c.in-Place.is))

pub returns-in-Average-clause-value : goal.returns-in-Average-clause-value
returns-in-Average-clause-value g c entries are =
    let seen = c.args.seen.now in
    let facts = seen.facts in
    let league = c.args.league.now in
    let net = net_in facts entries in
    let order = c.order-order.ensures.value in
    let lawful : ArePlayers facts.players = subst ArePlayers c.players.ensures c.len-count.ensures.lawful in
    let within : c.args.place < length c.order-order.result.now = subst (λ xs. c.args.place < length xs) (sym order) c.requires.within in
    let two : 2 ≤ length c.order-order.result.now = c.order-order.ensures.two (omega (arith, within)) in
    let told = (c.opponent_is_the_one.ensures (length c.order-order.result.now) c.from-round.result c.args.place c.opponent.result two within).0 c.opponent.ensures in
    let last = c.get.ensures.value in
    let start = c.get-2.ensures.value ∙ c.start.ensures in
    let round : c.from-round.result ≡ c.args.last - league.start = c.from-round.ensures ∙ (λ i. last i - start i) in
    let meets : opponent_of (length league.order) (c.args.last - league.start) c.args.place ≡ c.opponent.result = sym (told ∙ (λ i. opponent_of (length (order i)) (round i) c.args.place)) in
    let odd : has_average (length league.order) ≡ true = met_average (length league.order) (c.args.last - league.start) c.args.place c.requires.within (meets ∙ c.in-Average.is) in
    let one : 1 ≤ c.args.last = search rules in
    let by : c.args.last ≤ facts.calendar.locked = omega (arith, c.requires.last) in
    let live = average_lives facts seen.managers seen.leagues seen.cups c.args.id c.args.last league c.requires.there c.requires.begun by odd in
    let fits : to_z w32 (of_z w32 c.average.result) ≡ c.average.result = search rules in
    fits ∙ c.average.ensures.value (books_seen facts seen.managers seen.leagues seen.cups) c.requires.kept.kept.evaluated live
    ∙ average_is facts seen.managers seen.leagues seen.cups entries lawful c.rows_tell.ensures c.requires.kept.profile are c.args.id c.args.last league c.requires.there one by
    ∙ ap (points_against net league.order c.args.last) (sym (meets ∙ c.in-Average.is))
