use Rattle.std.proofs.Common.{◌≡◌, ◌≤◌, ◌∙◌, ◌==◌, Some, ap, arith, filter, length, refl}
use Rattle.std.specs.List.{slice_get}
use Rattle.std.proofs.lemmas.List.{take_all}
use Rattle.std.proofs.lemmas.Option.{slice_get_read}
use Rattle.live_windows.specs.declared.sums.LiveLine.{LiveLine}
use Rattle.live_windows.proofs.RowsAdded.{kept_next}
use Rattle.live_windows.proofs.players.own_of.Goals as goal

pub loop-line-init : goal.loop-line-init
loop-line-init c = record { value = c.new-own.ensures.items }

pub loop-line-preserved : goal.loop-line-preserved
loop-line-preserved c =
    let lines = c.args.lines.now in
    let i = c.loop-line.line-index in
    let line = c.line-item.result in
    let at : slice_get lines i ≡ Some line = slice_get_read lines (length lines) i line refl c.loop-line-test.true c.line-item.is in
    record {
      value = kept_next (λ (l : LiveLine). l.player == c.args.player) lines i line c.loop-line.own.items c.keep_own.new.own.items at c.loop-line.invariant.value
          c.in_ok-keep_own.ensures.his c.in_ok-keep_own.ensures.others;
    }

pub returns : goal.returns
returns c =
    let lines = c.args.lines.now in
    let i = c.loop-line.line-index in
    let past : length lines ≤ i = omega (arith, c.loop-line-test.false) in
    c.loop-line.invariant.value ∙ ap (filter (λ (l : LiveLine). l.player == c.args.player)) (take_all i lines past)
