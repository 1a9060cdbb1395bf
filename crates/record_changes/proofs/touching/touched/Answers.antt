use Rattle.std.proofs.Common.{◌≡◌, ◌∷◌, ◌∙◌, List, length, ap, subst, sym}
use Rattle.std.specs.Prelude.{IfOk}
use Rattle.manager_book.specs.declared.manager.Manager.{Manager}
use Rattle.season_records.specs.declared.slot.Slot.TheVariants as slot
use Rattle.season_records.specs.Touched.{touched_by}
use Rattle.season_entries.proofs.Keyed.{same_many}
use Rattle.record_changes.proofs.touching.touched.Goals as goal

pub returns-in-Entries : goal.returns-in-Entries
returns-in-Entries c = λ book plays.
    let many : length book.entries ≡ length c.managers.result.now.managers =
    same_many c.args.running.now.facts.players c.args.running.now.managers book.entries plays.entries
    ∙ sym (ap (λ (managers : List Manager). length managers) c.managers.ensures.managers) in
    subst (λ n. IfOk c.entry_slots.result (λ slots. slots.items ≡ slot.Last n ∷ touched_by book n c.args.command.now)) c.number_of-number.ensures
    (c.entry_slots.ensures book many)
