use Rattle.std.proofs.Common.{◌≡◌, ◌≤◌, ◌<◌, ◌+◌, ◌==◌, ◌∙◌, Some, length, get_or, not, arith, refl, rules, sym, ap}
use Rattle.std.specs.List.{filter, slice_get}
use Rattle.std.proofs.lemmas.List.FromFn.{length-enumerate_from}
use Rattle.std.proofs.lemmas.Option.{slice_get-get_or}
use Rattle.json_members.proofs.ListLemmas.{numbered_if, rest_of}
use Rattle.season_book.specs.Windows.{numbered}
use Rattle.season_book.specs.PicksWindow.{substitution_row}
use Rattle.season_views.proofs.Written.{ended}
use Rattle.entry_windows.proofs.writing.write_substitutions.Goals as goal

pub loop-place-preserved : goal.loop-place-preserved
loop-place-preserved c =
    let slots = c.args.slots.now in
    let place = c.loop-place.place in
    let slot = get_or slots c.from.result 0 in
    let long : length slots ≡ 11 = search rules in
    let below : place < length slots = omega (arith, long, c.loop-place-test.true) in
    let number : 1 + place ≡ place + 1 = omega arith in
    let there : slice_get slots place ≡ Some slot = slice_get-get_or slots place 0 below ∙ ap (λ k. Some (get_or slots k 0)) (sym c.from.ensures) in
    let wrote = c.in_ok-write_if_replaced.ensures in
    record {
      tokens = numbered_if (substitution_row c.args.team.now c.args.entry c.args.gameweek) (λ row. not (row.0 == row.1)) slots place (place + 1) slot there number wrote c.loop-place.invariant.tokens;
      before = wrote.before ∙ c.loop-place.invariant.before;
    }

pub returns : goal.returns
returns c =
    let slots = c.args.slots.now in
    let place = c.loop-place.place in
    let long : length slots ≡ 11 = search rules in
    let past : length (numbered slots) ≤ place = omega (arith, length-enumerate_from 1 slots, long, c.loop-place-test.false) in
    ended (λ rows. rest_of (substitution_row c.args.team.now c.args.entry c.args.gameweek) (filter (λ row. not (row.0 == row.1)) rows)) (numbered slots) place refl past
    c.end_array.ensures c.loop-place.invariant.tokens c.loop-place.invariant.before
