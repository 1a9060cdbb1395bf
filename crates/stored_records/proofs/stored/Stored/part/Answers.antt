use Rattle.std.proofs.Common.{◌∙◌, ◌-◌, ap, drop, refl, take}
use Rattle.fpl_base.specs.Keeping.{precedes}
use Rattle.stored_records.specs.Stored.{is_within}
use Rattle.stored_records.proofs.Found.{kept_between}
use Rattle.stored_records.proofs.stored.Stored.part.Goals as goal

pub returns : goal.returns
returns c =
    let first = c.place_of-first.ensures in
    let end = c.place_of-end.ensures in
    c.cut.ensures
    ∙ (ap (λ rows. take (c.place_of-end.result - c.place_of-first.result) (drop c.place_of-first.result rows)) c.as_slice.ensures.rows
    ∙ kept_between (λ row. precedes row.0 c.args.low) (λ row. precedes row.0 c.args.high) (λ row. is_within c.args.low c.args.high row.0) c.args.self.now c.place_of-first.result c.place_of-end.result (λ x. refl) (first.before, first.behind) (end.before, end.behind))
