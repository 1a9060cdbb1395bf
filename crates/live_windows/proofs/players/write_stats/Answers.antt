use Rattle.std.proofs.Common.{◌≡◌, ◌∙◌, rules, to_z, of_z, w32}
use Rattle.json_members.specs.Tokens.{tokens_of}
use Rattle.json_members.proofs.AppendLemmas.{one, then}
use Rattle.live_windows.specs.Gathered.{stats_with}
use Rattle.live_windows.proofs.ItemsWritten.{told_as}
use Rattle.live_windows.proofs.players.write_stats.Goals as goal

pub returns : goal.returns
returns c =
    let bps : to_z w32 (of_z w32 c.bps_sum.result) ≡ c.bps_sum.result = search rules in
    let points : to_z w32 (of_z w32 c.points_sum.result) ≡ c.points_sum.result = search rules in
    told_as
    (λ i. tokens_of
    (stats_with (c.sum_of.ensures i) (c.bonus_of.ensures i) ((bps ∙ c.bps_sum.ensures) i) (c.clean_sheets.ensures i) (c.sum_of-2.ensures i) (c.sum_of-3.ensures i) c.args.is_dreamed
    (c.sum_of-4.ensures i) (c.sum_of-5.ensures i) (c.sum_of-6.ensures i) (c.sum_of-7.ensures i) (c.sum_of-8.ensures i) (c.sum_of-9.ensures i) ((points ∙ c.points_sum.ensures) i)
    (c.yellow_cards.ensures i)))
    (then (one c.in_ok-begin_object.ensures) (then c.in_ok-write_count.ensures (then c.in_ok-write_count-2.ensures (then c.in_ok-write_integer.ensures
    (then c.in_ok-write_count-3.ensures (then c.in_ok-write_count-4.ensures (then c.in_ok-write_count-5.ensures (then c.in_ok-write_truth.ensures
    (then c.in_ok-write_count-6.ensures (then c.in_ok-write_count-7.ensures (then c.in_ok-write_count-8.ensures (then c.in_ok-write_count-9.ensures
    (then c.in_ok-write_count-10.ensures (then c.in_ok-write_count-11.ensures (then c.in_ok-write_integer-2.ensures (then c.in_ok-write_count-12.ensures
    (one c.end_object.ensures)))))))))))))))))
