use Rattle.std.proofs.Common.{◌≡◌, ◌+◌, ◌∙◌, None, ap, refl, subst, sym}
use Rattle.fpl_base.specs.Keeping.{map_of}
use Rattle.season_records.specs.declared.slot.Slot.TheVariants as slot
use Rattle.stored_records.specs.Stored.{told}
use Rattle.season_restoring.specs.Restoring.{IsTold, parts_of}
use Rattle.season_restoring.proofs.EntriesTold.{no_parts, told_parts}
use Rattle.season_restoring.proofs.managers.restore_next.Goals as goal

pub restore-requires-clause-told : goal.restore-requires-clause-told
restore-requires-clause-told c =
    let m = map_of c.args.stored.now in
    let parts = c.in-Some-2.field-0 in
    subst (λ e. IsTold m e parts.first parts.key parts.name) c.get.ensures.value
    (told_parts m c.get.result parts (sym (ap parts_of c.item.ensures) ∙ (sym c.in_ok-first.ensures ∙ c.in-Some-2.is)))

pub returns-in-None-clause-goes : goal.returns-in-None-clause-goes
returns-in-None-clause-goes c =
    let m = map_of c.args.stored.now in (
      refl,
      subst (λ e. told m (slot.Entry e) ≡ None) (c.get.ensures.value ∙ c.in-Some.ensures.value ∙ ap (λ n. n + 1) c.entries.ensures.count)
          (no_parts m c.get.result (sym (ap parts_of c.item.ensures) ∙ (sym c.in_ok-first.ensures ∙ c.in-None.is))),
    )
