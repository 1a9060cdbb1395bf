use Rattle.std.proofs.Common.{◌≡◌, ◌∙◌, Some, ap, refl, rules, sym}
use Rattle.std.specs.Option.{option_map}
use Rattle.season_records.specs.ItemReading.{item_of}
use Rattle.season_records.specs.declared.item.Item.TheVariants as item
use Rattle.season_book.specs.Book.{Last, caller_number}
use Rattle.stored_records.proofs.KeptLemmas.{other_found}
use Rattle.season_restoring.proofs.LastPut.{put_more}
use Rattle.season_restoring.proofs.last_commands.put_last.Goals as goal

pub returns-in_ok-put-in-Some-Last : goal.returns-in_ok-put-in-Some-Last
returns-in_ok-put-in-Some-Last c =
    let found = c.in-Some-Last in
    let told = item_of c.args.row.now.0 c.args.row.now.1 in
    let kept : option_map (λ i. i.now) c.item.result ≡ Some (item.Last found.caller found.number found.field-0-2 found.made found.command) = search rules in
    let at = other_found told _ (sym c.item.ensures.other ∙ kept) in
    λ m are.
    put_more c.args.row.now.0 c.args.row.now.1 c.requires told refl found.caller found.number found.field-0-2 found.made found.command at
    (caller_number c.caller_of.result) c.new-last.result c.caller_of.ensures
    (ap (λ (l : Last). l.number) c.new-last.ensures)
    (ap (λ (l : Last). l.command) c.new-last.ensures ∙ c.in_ok-copy-in-Some-Last.ensures)
    (ap (λ (l : Last). l.made) c.new-last.ensures ∙ c.made_of.ensures)
    m c.args.lasts.now c.put.new.self c.in_ok-put-in-Some-Last.ensures.put are
