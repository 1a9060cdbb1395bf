use Rattle.std.proofs.Common.{◌<◌, ◌∙◌, ◌+◌, ap, length, subst, sym, take}
use Rattle.std.proofs.lemmas.List.{take_all}
use Rattle.fpl_base.specs.Keeping.{map_of}
use Rattle.rule_book.specs.CupCalls.{most_cups}
use Rattle.season_restoring.specs.CupRows.{IsCupRow, TellsCups}
use Rattle.season_restoring.proofs.CupLemmas.{cup_at, cups_told, no_cups, one_more, room_at}
use Rattle.season_restoring.proofs.cups.cups_of.Goals as goal

pub loop-row-init : goal.loop-row-init
loop-row-init c = record { told = no_cups c.new-cups.result c.new-cups.ensures; count = ap length c.new-cups.ensures }

pub add_cup-requires : goal.add_cup-requires
add_cup-requires c =
    let row = c.row-item.result in
    let part = c.of_kind-row-items.result.now in
    let own = cup_at c.args.rows.now part c.requires.lawful c.requires.rise c.of_kind-row-items.ensures.kept c.loop-row.row-index row c.loop-row-test.true c.row-item.is in
    let few = room_at c.args.rows.now part c.requires.lawful c.requires.rise c.of_kind-row-items.ensures.kept c.loop-row.row-index row c.loop-row-test.true c.row-item.is in
    record { room = subst (λ n. n < most_cups) (sym c.loop-row.invariant.count) few; row = subst (λ n. IsCupRow (n + 1) row.0 row.1) (sym c.loop-row.invariant.count) own }

pub loop-row-preserved : goal.loop-row-preserved
loop-row-preserved c = record {
  told =
      one_more c.args.rows.now c.of_kind-row-items.result.now c.requires.rise c.of_kind-row-items.ensures.kept c.loop-row.row-index c.row-item.result c.add_cup.new.cups c.loop-row-test.true c.row-item.is
      (c.in_ok-add_cup.ensures.told (map_of (take c.loop-row.row-index c.of_kind-row-items.result.now)) c.loop-row.invariant.told);
  count = c.in_ok-add_cup.ensures.one_more ∙ ap (λ n. n + 1) c.loop-row.invariant.count;
}

pub returns : goal.returns
returns c =
    let part = c.of_kind-row-items.result.now in
    cups_told c.args.rows.now part c.requires.lawful c.requires.rise c.of_kind-row-items.ensures.kept c.loop-row.cups
    (subst (λ l. TellsCups (map_of l) c.loop-row.cups) (take_all c.loop-row.row-index part c.loop-row-test.false) c.loop-row.invariant.told)
