use Rattle.std.proofs.Common.{◌∙◌, ◌||◌, ap, false, sym}
use Rattle.std.specs.Option.{option_map, option_map_or}
use Rattle.season_records.specs.ItemReading.{item_of}
use Rattle.stored_records.specs.Kept.{transfer_item}
use Rattle.stored_records.proofs.KeptLemmas.{other_found, transfer_found}
use Rattle.store_validation.specs.Lawful.{breaks, rules_broken}
use Rattle.store_validation.proofs.judging.is_wrong.Goals as goal

pub returns-else-misses-clause-wrong : goal.returns-else-misses-clause-wrong
returns-else-misses-clause-wrong c =
    let rows = c.args.stored.now in
    let told = item_of c.args.row.now.0 c.args.row.now.1 in
    let found = transfer_found c.in-Some.transfer told (ap (option_map transfer_item) (sym c.in-Some.is) ∙ c.transfer.ensures) in
    c.transfer_breaks.ensures.breaks
    ∙ (sym (ap (λ b. b || rules_broken rows (transfer_item c.in-Some.transfer)) (sym c.misses.ensures ∙ c.if-misses.false))
    ∙ sym (ap (λ o. option_map_or (breaks rows) o false) found))

pub returns-in-Some-item-clause-wrong : goal.returns-in-Some-item-clause-wrong
returns-in-Some-item-clause-wrong c =
    let told = item_of c.args.row.now.0 c.args.row.now.1 in
    let found = other_found told c.in-Some-item.item.now (sym c.item.ensures.other ∙ ap (option_map (λ i. i.now)) c.in-Some-item.is) in
    c.breaks.ensures.breaks ∙ sym (ap (λ o. option_map_or (breaks c.args.stored.now) o false) found)
