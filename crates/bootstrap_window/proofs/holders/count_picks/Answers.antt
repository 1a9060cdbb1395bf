use Rattle.std.proofs.Common.{◌≡◌, ◌≤◌, ◌<◌, ◌+◌, ◌∙◌, cond, length, arith, ap}
use Rattle.std.proofs.lemmas.List.{take_all}
use Rattle.season_book.specs.Elements.{is_picked}
use Rattle.bootstrap_window.specs.Tables.{count_in}
use Rattle.season_views.proofs.Numbered.{stands}
use Rattle.bootstrap_window.proofs.PicksHeld.{counted_once}
use Rattle.bootstrap_window.proofs.holders.count_picks.Goals as goal

pub count_pick-requires-clause-few : goal.count_pick-requires-clause-few
count_pick-requires-clause-few c = λ pick at is.
    let before = c.loop-place.invariant pick.player in
    let start = c.requires pick.player in
    let same : count_in c.loop-place.counts pick.player ≡ count_in c.args.counts.now pick.player + 0 = before ∙ ap (λ b. count_in c.args.counts.now pick.player + cond b 1 0) is in
    omega (arith, same, start)

pub loop-place-preserved : goal.loop-place-preserved
loop-place-preserved c = λ p.
    let picks = c.args.picks.now in
    let place = c.loop-place.place in
    let within : place < length picks = c.loop-place-test.true in
    let at = stands picks place within in
    counted_once picks place at.0 p (count_in c.args.counts.now p) (count_in c.loop-place.counts p) (count_in c.count_pick.new.counts p) at.1 (c.loop-place.invariant p) (c.in_ok-count_pick.ensures p at.0 at.1)

pub returns : goal.returns
returns c = λ p.
    let picks = c.args.picks.now in
    let past : length picks ≤ c.loop-place.place = omega (arith, c.loop-place-test.false) in
    c.loop-place.invariant p ∙ ap (λ ps. count_in c.args.counts.now p + cond (is_picked ps p) 1 0) (take_all c.loop-place.place picks past)
