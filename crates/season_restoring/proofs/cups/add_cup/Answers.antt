use Rattle.std.proofs.Common.{◌≡◌, ◌∙◌, ◌+◌, Some, length, refl, rules, sym}
use Rattle.std.specs.Option.{option_map}
use Rattle.std.proofs.lemmas.Result.{on_ok_weaker}
use Rattle.season_records.specs.ItemReading.{item_of}
use Rattle.season_records.specs.declared.item.Item.TheVariants as item
use Rattle.stored_records.proofs.KeptLemmas.{other_found}
use Rattle.season_restoring.proofs.CupLemmas.{cup_put, shape_so}
use Rattle.season_restoring.proofs.cups.add_cup.Goals as goal

pub put_cup-requires-clause-shape : goal.put_cup-requires-clause-shape
put_cup-requires-clause-shape c =
    let found = c.in-Some-Cup in
    let k = c.args.row.now.0 in
    let body = c.args.row.now.1 in
    let kept : option_map (λ i. i.now) c.item.result ≡ Some (item.Cup found.field-0-0 found.start found.slots found.coins) = search rules in
    let at = other_found (item_of k body) _ (sym c.item.ensures.other ∙ kept) in
    shape_so (length c.args.cups.now + 1) k body c.requires.row (item_of k body) refl found.field-0-0 found.start found.slots found.coins at
    (record { start = found.start; slots = c.in_ok-copy-in-Some-Cup.field-0; coins = c.in_ok-copy-in-Some-Cup-2.field-0 })
    refl c.in_ok-copy-in-Some-Cup.ensures c.in_ok-copy-in-Some-Cup-2.ensures

pub returns-in_ok-copy-in-Some-Cup-2-clause-told : goal.returns-in_ok-copy-in-Some-Cup-2-clause-told
returns-in_ok-copy-in-Some-Cup-2-clause-told c =
    let found = c.in-Some-Cup in
    let k = c.args.row.now.0 in
    let body = c.args.row.now.1 in
    let kept : option_map (λ i. i.now) c.item.result ≡ Some (item.Cup found.field-0-0 found.start found.slots found.coins) = search rules in
    let at = other_found (item_of k body) _ (sym c.item.ensures.other ∙ kept) in
    on_ok_weaker c.put_cup.result
    (λ put m tell.
    cup_put (length c.args.cups.now + 1) k body c.requires.row (item_of k body) refl found.field-0-0 found.start found.slots found.coins at
    (record { start = found.start; slots = c.in_ok-copy-in-Some-Cup.field-0; coins = c.in_ok-copy-in-Some-Cup-2.field-0 })
    refl c.in_ok-copy-in-Some-Cup.ensures c.in_ok-copy-in-Some-Cup-2.ensures m c.args.cups.now c.put_cup.new.cups refl put tell)
    c.put_cup.ensures
