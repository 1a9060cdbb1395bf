use Rattle.std.proofs.Common.{◌≡◌, ◌-◌, Some, FitsSigned, length, of_z, to_z, rules, w32, sym, ap, ◌∙◌}
use Rattle.std.specs.Prelude.{◌-ℤ◌}
use Rattle.std.specs.Option.{option_map_or}
use Rattle.rule_book.specs.HeadToHead.{match_points}
use Rattle.rule_book.specs.LeagueRows.{match_in, place_of, points_against}
use Rattle.rule_book.specs.Opponents.{opponent_of}
use Rattle.season_book.specs.LeagueViews.{net_in}
use Rattle.league_windows.specs.Standings.{head_standing_of, without_match}
use Rattle.league_windows.proofs.Widths.{wide_difference}
use Rattle.league_windows.proofs.head.standing_before.Goals as goal

pub returns-in-Some-clause-value : goal.returns-in-Some-clause-value
returns-in-Some-clause-value g c entries are =
    let facts = c.args.seen.now.facts in
    let league = c.args.league.now in
    let row = c.args.row.now in
    let e = row.0 in
    let score = row.1 in
    let place = c.in-Some.place in
    let last = facts.calendar.locked in
    let net = net_in facts entries in
    let own = c.net-own.result in
    let other = c.points_against-other.result in
    let own_is : own ≡ net e last = c.net-own.ensures.value entries are ∙ ap (net e) c.requires.last in
    let other_is : other ≡ points_against net league.order last (opponent_of (length league.order) (last - league.start) place) =
    c.points_against-other.ensures.value entries are ∙ ap (λ g. points_against net league.order g (opponent_of (length league.order) (g - league.start) place)) c.requires.last in
    let own_fits : to_z w32 (of_z w32 own) ≡ own = search rules in
    let other_fits : to_z w32 (of_z w32 other) ≡ other = search rules in
    let points : c.saturating_sub.result ≡ score.points - match_points (match_in net league e place last).0 (match_in net league e place last).1 =
    c.saturating_sub.ensures ∙ ap (λ n. score.points - n) (c.from.ensures ∙ c.result.ensures ∙ (λ i. match_points (own_fits i) (other_fits i)) ∙ (λ i. match_points (own_is i) (other_is i))) in
    let fits : FitsSigned w32 score.scored = search rules in
    let also : FitsSigned w32 own = search rules in
    let scored = wide_difference score.scored own c.from-in-Some.result c.from-in-Some-2.result fits also c.from-in-Some.ensures c.from-in-Some-2.ensures ∙ ap (λ z. score.scored -ℤ z) own_is in
    let found : place_of league.order e ≡ Some place = sym c.place.ensures.value ∙ c.in-Some.is in
    (λ i. record { points = record { 0 = points i }; scored = record { 0 = scored i } })
    ∙ ap (λ o. option_map_or (λ p. without_match score (match_in net league e p last)) o (head_standing_of row)) (sym found)
