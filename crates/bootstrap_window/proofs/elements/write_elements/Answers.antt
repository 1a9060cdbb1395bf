use Rattle.std.proofs.Common.{◌≡◌, ◌≤◌, ◌∙◌, Some, length, arith, ap, refl, rules, sym, to_z, of_z, w32}
use Rattle.std.specs.List.{slice_get}
use Rattle.std.proofs.lemmas.Option.{slice_get_within, get_or_from_slice_get}
use Rattle.json_members.specs.Tokens.{tokens_of}
use Rattle.json_members.proofs.AppendLemmas.{one_more}
use Rattle.json_members.proofs.ListLemmas.{rest_of}
use Rattle.season_views.proofs.Written.{ended}
use Rattle.season_book.specs.Elements.{element_data, element_row}
use Rattle.bootstrap_window.proofs.PlayersFound.{there_at}
use Rattle.bootstrap_window.proofs.Retold.{retold}
use Rattle.bootstrap_window.proofs.elements.write_elements.Goals as goal

pub points_now-points-requires-clause-there : goal.points_now-points-requires-clause-there
points_now-points-requires-clause-there g c =
    let players = c.args.seen.now.facts.players in
    let place = c.loop-place.place in
    let player = c.player_at-player.result.now in
    let at : slice_get players place ≡ Some player = ap (λ ps. slice_get ps place) (sym c.players-in-loop-place.ensures) ∙ c.player_at-player.ensures in
    there_at players place player at

pub loop-place-preserved : goal.loop-place-preserved
loop-place-preserved g c =
    let facts = c.args.seen.now.facts in
    let players = facts.players in
    let place = c.loop-place.place in
    let player = c.player_at-player.result.now in
    let at : slice_get players place ≡ Some player = ap (λ ps. slice_get ps place) (sym c.players-in-loop-place.ensures) ∙ c.player_at-player.ensures in
    let within = slice_get_within players place player at in
    let is = sym (get_or_from_slice_get players place player player at) in
    let points : to_z w32 (of_z w32 c.points_now-points.result) ≡ c.points_now-points.result = search rules in
    record {
      tokens = λ entries are.
          let held = c.in_ok-holders.ensures.value entries are in
          let wrote = retold (λ i. tokens_of (element_data player (c.in_ok-table.ensures.value player.id i) ((points ∙ c.points_now-points.ensures.value) i) (held.counts player.id i) (held.entries i))) c.in_ok-write_element.ensures in
          one_more (element_row facts entries) players place player within is wrote (c.loop-place.invariant.tokens entries are);
      before = c.in_ok-write_element.ensures.before ∙ c.loop-place.invariant.before;
      cost = let one = c.points_now-points.ensures.cost in let had = c.loop-place.invariant.cost in omega (arith, one, had);
    }

pub returns-clause-value : goal.returns-clause-value
returns-clause-value g c = λ entries are.
    let players = c.args.seen.now.facts.players in
    let place = c.loop-place.place in
    let past : length players ≤ place = omega (arith, c.loop-place-test.false, c.len-place-end.ensures.count, ap length c.players.ensures) in
    ended (rest_of (element_row c.args.seen.now.facts entries)) players place refl past c.end_array.ensures (c.loop-place.invariant.tokens entries are) c.loop-place.invariant.before
