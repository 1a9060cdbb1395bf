use Rattle.std.proofs.Common.{◌≡◌, ◌∙◌, length, ap, sym, subst}
use Rattle.fpl_base.specs.Keeping.{map_of}
use Rattle.rule_book.specs.EntryRecords.{AreEntryRecords}
use Rattle.rule_book.specs.PlayerFigures.{position_in}
use Rattle.manager_book.specs.Managers.{Managers}
use Rattle.season_ledger.specs.Rows.{rows_of_records}
use Rattle.season_restoring.specs.Restoring.{AreRestored, IsRestored, IsTold, entry_sales_told, teams_told}
use Rattle.season_restoring.proofs.Issued.{are_there, no_other, room}
use Rattle.season_restoring.proofs.OneEntry.{first_is, have_banks, is_restored, its_records}
use Rattle.season_restoring.proofs.EntriesWhole.{made_next, on_ok_to}
use Rattle.season_restoring.proofs.managers.restore.Goals as goal

pub teams_of-requires : goal.teams_of-requires
teams_of-requires c = have_banks c.args.stored.now c.requires.lawful c.args.players.now c.requires.players c.args.entry

pub restore-requires-clause-room : goal.restore-requires-clause-room
restore-requires-clause-room c =
    room c.args.stored.now c.requires.lawful (length c.args.book.now.managers) c.args.first c.args.key c.args.name
    (are_there c.args.stored.now c.requires.lawful c.args.players.now c.args.book.now.managers c.requires.restored)
    (subst (λ e. IsTold (map_of c.args.stored.now) e c.args.first c.args.key c.args.name) c.requires.next c.requires.told)

pub restore-requires-clause-fresh : goal.restore-requires-clause-fresh
restore-requires-clause-fresh c =
    no_other c.args.stored.now c.requires.lawful c.args.players.now c.args.book.now.managers c.requires.restored c.args.key c.args.first c.args.name
    (subst (λ e. IsTold (map_of c.args.stored.now) e c.args.first c.args.key c.args.name) c.requires.next c.requires.told)

pub restore-requires-clause-records : goal.restore-requires-clause-records
restore-requires-clause-records c =
    let e = c.args.entry in
    let m = map_of c.args.stored.now in
    let teams : c.as_slice.result.now ≡ teams_told (position_in c.args.players.now) m e = c.as_slice.ensures.value ∙ c.in_ok-teams.ensures in
    let sales : c.as_slice-2.result.now ≡ entry_sales_told m e = c.as_slice-2.ensures.value ∙ c.in_ok-sales.ensures in
    let records = its_records c.args.stored.now c.requires.lawful c.args.players.now c.requires.players e in
    let first = first_is c.args.stored.now c.requires.lawful c.args.players.now c.requires.players e c.args.first c.args.key c.args.name c.requires.told in
    subst (λ s. AreEntryRecords c.args.first c.as_slice.result.now s) (sym sales)
    (subst (λ t. AreEntryRecords c.args.first t (entry_sales_told m e)) (sym teams)
    (subst (λ f. AreEntryRecords f (teams_told (position_in c.args.players.now) m e) (entry_sales_told m e)) first records))

pub returns-clause-restored : goal.returns-clause-restored
returns-clause-restored c =
    let e = c.args.entry in
    let m = map_of c.args.stored.now in
    let teams : c.as_slice.result.now ≡ teams_told (position_in c.args.players.now) m e = c.as_slice.ensures.value ∙ c.in_ok-teams.ensures in
    let sales : c.as_slice-2.result.now ≡ entry_sales_told m e = c.as_slice-2.ensures.value ∙ c.in_ok-sales.ensures in
    on_ok_to c.restore.result c.restore.ensures.ok
    (λ is. subst (AreRestored m c.args.players.now) (sym (ap (λ (b : Managers). b.managers) is))
    (made_next m c.args.players.now c.args.book.now.managers c.args.key c.args.name c.as_slice.result.now c.as_slice-2.result.now
    (teams_told (position_in c.args.players.now) m e) (entry_sales_told m e) teams sales c.requires.restored
    (subst (λ i. IsRestored m c.args.players.now i (record { key = c.args.key; name = c.args.name; season = rows_of_records (teams_told (position_in c.args.players.now) m e) (entry_sales_told m e); sales = entry_sales_told m e })) c.requires.next
    (is_restored c.args.stored.now c.requires.lawful c.args.players.now c.requires.players e c.args.first c.args.key c.args.name c.requires.told))))
