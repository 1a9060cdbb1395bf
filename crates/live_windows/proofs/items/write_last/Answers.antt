use Rattle.std.proofs.Common.{◌≡◌, ◌*◌, ◌-ℤ◌, ap, arith, codes, pos, rules, to_z, of_z, w32}
use Rattle.json_members.proofs.AppendLemmas.{then}
use Rattle.rule_book.specs.Figures.{figure}
use Rattle.rule_book.specs.Points.{counted_yellow}
use Rattle.season_book.specs.Explained.{item}
use Rattle.live_windows.specs.ItemTokens.{item_tokens}
use Rattle.live_windows.proofs.ItemsWritten.{alone, told_as}
use Rattle.live_windows.proofs.items.write_last.Goals as goal

pub returns : goal.returns
returns c =
    let yellow : to_z w32 (of_z w32 c.loss.result) ≡ c.loss.result = search rules in
    let red : to_z w32 (of_z w32 c.loss-2.result) ≡ c.loss-2.result = search rules in
    let saves : to_z w32 (of_z w32 c.saves_points.result) ≡ c.saves_points.result = search rules in
    let bonus : to_z w32 (of_z w32 c.from.result) ≡ c.from.result = search rules in
    let cards = counted_yellow c.args.line.now in
    let once : cards ≡ 1 * cards = omega arith in
    then (told_as (ap (λ n. item_tokens (item (codes "yellow_cards") (pos 0 -ℤ pos n) (figure c.args.line.now 8))) once)
    (rw (yellow, c.loss.ensures, c.counted_yellow.ensures.value, c.figure-yellow.ensures.value) at c.in_ok-write_if.ensures))
    (then (rw (red, c.loss-2.ensures, c.figure-red.ensures.value) at c.in_ok-write_if-2.ensures)
    (then (rw (saves, c.saves_points.ensures, c.figure-saves.ensures.value) at c.in_ok-write_if-3.ensures)
    (alone _ (rw (bonus, c.from.ensures, c.from-2.ensures) at c.write_if-4.ensures))))
