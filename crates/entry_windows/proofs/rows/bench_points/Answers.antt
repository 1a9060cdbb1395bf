use Rattle.std.proofs.Common.{◌≡◌, ◌+ℤ◌, ◌∙◌, ap, ap₂, arith, not, sym}
use Rattle.std.proofs.lemmas.Int.{ints}
use Rattle.season_book.specs.EntryRows.{does_count}
use Rattle.entry_windows.specs.Told.{figures_in}
use Rattle.entry_windows.proofs.Bench.{points_more, points_until}
use Rattle.entry_windows.proofs.Better.{sum_is}
use Rattle.entry_windows.proofs.rows.bench_points.Goals as goal

pub loop-place-preserved : goal.loop-place-preserved
loop-place-preserved g c =
    let played = c.args.played.now in
    let more = points_more (figures_in c.args.seen.now.facts played.team c.args.gameweek) (λ slot. not (does_count played.team played.score.eleven.slots slot)) c.loop-place.place in
    let inv = c.loop-place.invariant in
    let one = c.bench_at-points.ensures in
    record {
      points = sum_is _ _ c.bench_at-points.result _ (omega (arith, ints, inv.near.0, inv.near.1, one.near.0, one.near.1, c.loop-place-test.true)) (ap₂ ◌+ℤ◌ inv.points one.value ∙ sym more);
      near = (omega (arith, ints, inv.near.0, inv.near.1, one.near.0, one.near.1, c.loop-place-test.true), omega (arith, ints, inv.near.0, inv.near.1, one.near.0, one.near.1, c.loop-place-test.true));
      few = omega (arith, c.loop-place-test.true);
      cost = omega (arith, inv.cost, one.cost);
    }

pub returns-clause-value : goal.returns-clause-value
returns-clause-value g c =
    let played = c.args.played.now in
    let inv = c.loop-place.invariant in
    let all : c.loop-place.place ≡ 15 = omega (arith, inv.few, c.loop-place-test.false) in
    inv.points ∙ ap (points_until (figures_in c.args.seen.now.facts played.team c.args.gameweek) (λ slot. not (does_count played.team played.score.eleven.slots slot))) all
