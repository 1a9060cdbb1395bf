use Rattle.std.proofs.Common.{◌≡◌, ◌∙◌, ◌*◌, ap, pos, rules, to_z, of_z, w32}
use Rattle.json_members.specs.Tokens.{tokens_of}
use Rattle.season_book.specs.Decimals.{decimal_text}
use Rattle.season_book.specs.Elements.{element_with}
use Rattle.bootstrap_window.specs.Tables.{count_in, told, totals_in}
use Rattle.bootstrap_window.specs.declared.totals.Totals.{Totals}
use Rattle.bootstrap_window.proofs.Retold.{retold}
use Rattle.bootstrap_window.proofs.elements.write_element.Goals as goal

pub returns : goal.returns
returns c =
    let player = c.args.player.now in
    let totals = c.totals_in-totals.result in
    let holders = c.args.holders.now in
    let same : to_z w32 (of_z w32 c.args.points) ≡ c.args.points = search rules in
    let points : to_z w32 (of_z w32 totals.points) ≡ totals.points = search rules in
    let average : c.as_str.result.now ≡ decimal_text (totals_in c.args.table.now player.id).points (totals_in c.args.table.now player.id).played =
    c.as_str.ensures.value ∙ c.in_ok-average.ensures ∙ ap (λ z. decimal_text z totals.played) points ∙ ap (λ (t : Totals). decimal_text t.points t.played) c.totals_in-totals.ensures in
    let share : c.as_str-2.result.now ≡ decimal_text (pos (100 * count_in holders.counts player.id)) holders.entries =
    c.as_str-2.ensures.value ∙ c.in_ok-share.ensures ∙ ap (λ n. decimal_text (pos (100 * n)) holders.entries) c.count_in.ensures in
    retold (λ i. tokens_of (element_with player (told (c.totals_in-totals.ensures i)) (same i) (average i) (share i))) c.write_members.ensures
