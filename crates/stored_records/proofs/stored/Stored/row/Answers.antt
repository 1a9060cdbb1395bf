use Rattle.std.proofs.Common.{◌≡◌, ◌∙◌, ◌<◌, false, ap, sym, subst, Some, refl, length}
use Rattle.std.specs.List.{HoldsAt}
use Rattle.fpl_base.specs.Keeping.{KeysRise, is_same_key, map_of}
use Rattle.stored_records.proofs.Found.{absent, found_at}
use Rattle.stored_records.proofs.stored.Stored.row.Goals as goal

pub returns-then-stands_at-clause-body : goal.returns-then-stands_at-clause-body
returns-then-stands_at-clause-body c =
    let there = c.if-stands_at.ensures.there refl in
    let rows = c.as_slice-rows.result.now in
    let row = c.index-rows-place.result in
    let rise = subst KeysRise (sym c.as_slice-rows.ensures.rows) c.as_slice-rows.ensures.rise in
    let found = found_at rows c.place_of-place.result row rise there.0 in
    ap (λ r. Some r.1) c.index-rows-place.is ∙ (sym found ∙ (ap (map_of rows) (there.1 row) ∙ ap (λ m. map_of m c.args.key) c.as_slice-rows.ensures.rows))

pub returns-else-stands_at-clause-body : goal.returns-else-stands_at-clause-body
returns-else-stands_at-clause-body c =
    let away = subst (λ rows. c.place_of-place.result < length rows → HoldsAt (λ row. is_same_key row.0 c.args.key ≡ false) rows c.place_of-place.result) c.as_slice-rows.ensures.rows (c.if-stands_at.ensures.away refl) in
    sym (absent c.args.self.now c.args.key c.place_of-place.result c.as_slice-rows.ensures.rise c.place_of-place.ensures away)
