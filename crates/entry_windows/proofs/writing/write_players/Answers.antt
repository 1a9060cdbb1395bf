use Rattle.std.proofs.Common.{◌≡◌, ◌≤◌, ◌<◌, ◌+◌, ◌∙◌, Some, length, get_or, arith, refl, rules, sym, ap}
use Rattle.std.specs.List.{slice_get}
use Rattle.std.proofs.lemmas.List.FromFn.{length-enumerate_from}
use Rattle.std.proofs.lemmas.Option.{slice_get-get_or}
use Rattle.json_members.proofs.ListLemmas.{numbered_more, rest_of}
use Rattle.season_book.specs.Windows.{numbered}
use Rattle.season_book.specs.PicksWindow.{pick_row}
use Rattle.season_views.proofs.Written.{ended}
use Rattle.entry_windows.proofs.writing.write_players.Goals as goal

pub loop-place-preserved : goal.loop-place-preserved
loop-place-preserved c =
    let picks = c.args.picks.now in
    let place = c.loop-place.place in
    let read = c.index-picks-from.result in
    let pick = get_or picks c.from.result read in
    let long : length picks ≡ 15 = search rules in
    let below : place < length picks = omega (arith, long, c.loop-place-test.true) in
    let number : 1 + place ≡ place + 1 = omega arith in
    let there : slice_get picks place ≡ Some pick = slice_get-get_or picks place read below ∙ ap (λ k. Some (get_or picks k read)) (sym c.from.ensures) in
    let wrote = c.in_ok-write_pick.ensures in
    record {
      tokens = numbered_more (pick_row c.args.played.now.team c.args.played.now.score) picks place (place + 1) pick there number wrote c.loop-place.invariant.tokens;
      before = wrote.before ∙ c.loop-place.invariant.before;
    }

pub returns : goal.returns
returns c =
    let picks = c.args.picks.now in
    let place = c.loop-place.place in
    let long : length picks ≡ 15 = search rules in
    let past : length (numbered picks) ≤ place = omega (arith, length-enumerate_from 1 picks, long, c.loop-place-test.false) in
    ended (rest_of (pick_row c.args.played.now.team c.args.played.now.score)) (numbered picks) place refl past c.end_array.ensures c.loop-place.invariant.tokens c.loop-place.invariant.before
