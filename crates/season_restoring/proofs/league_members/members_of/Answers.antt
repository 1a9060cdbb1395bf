use Rattle.std.proofs.Common.{◌≡◌, ◌∙◌, ◌<◌, ◌≤◌, ap, filter, get_or, length, subst, sym}
use Rattle.fpl_base.specs.declared.records.RecordKey.{RecordKey}
use Rattle.stored_records.specs.Stored.{is_member_of}
use Rattle.season_restoring.proofs.MemberRows.{at_place}
use Rattle.season_restoring.proofs.league_members.members_of.Goals as goal

pub entry-requires : goal.entry-requires
entry-requires c =
    let row = c.row-item.result in
    let part : c.members-rows.result.now ≡ filter (is_member_of c.args.league) c.args.stored.now = c.members-rows.ensures in
    subst (λ (k : RecordKey). 1 ≤ k.b) (sym c.key.ensures) (at_place c.args.stored.now c.requires.rise c.requires.lawful c.args.league c.loop-row.row-index row
    (subst (λ l. c.loop-row.row-index < length l) part c.loop-row-test.true)
    (c.row-item.is ∙ ap (λ l. get_or l c.loop-row.row-index row) part)).one_up
