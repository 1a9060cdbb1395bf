use Rattle.std.proofs.Common.{◌≡◌, ◌∷◌, [], ◌∙◌}
use Rattle.rule_book.specs.ById.{at_id, placed_at}
use Rattle.rule_book.proofs.Placed.{at_id-lookup, placed-insert_entry}
use Rattle.season_running.proofs.LastFacts.{placed_back}
use Rattle.season_running.proofs.lasts.Lasts.put.Goals as goal

put_there : (c : goal.In_ok-insert) → c.insert.new.self.entries ≡ placed_at c.self.inside.rows.entries c.number_of.result ((c.number_of.result, c.args.last) ∷ [])
put_there c = c.in_ok-insert.ensures.entries ∙ placed-insert_entry c.self.inside.rows.entries c.number_of.result c.args.last c.self.invariant

pub returns-clause-put : goal.returns-clause-put
returns-clause-put c =
    rw (← c.number_of.ensures, ← c.self.view_is) (put_there c)

pub returns-clause-back : goal.returns-clause-back
returns-clause-back c =
    let rows = c.self.inside.rows.entries in
    let k = c.number_of.result in
    let before : c.in_ok-insert.field-0 ≡ at_id rows k = c.in_ok-insert.ensures.old ∙ at_id-lookup rows k in
    rw (← c.number_of.ensures, ← c.self.view_is, put_there c, before) (placed_back rows k c.args.last c.self.invariant)
