use Rattle.std.proofs.Common.{◌∙◌, IsSome, subst, sym}
use Rattle.std.specs.BTreeMap.{insert_entry}
use Rattle.std.specs.Ordering.{nat_cmp}
use Rattle.rule_book.specs.ById.{at_id}
use Rattle.rule_book.proofs.Placed.{at_id-lookup, placed-insert_entry, placed-remove_entry}
use Rattle.season_running.proofs.LastFacts.{replaced}
use Rattle.season_running.proofs.lasts.Lasts.put_back.Goals as goal

pub returns-in-Some : goal.returns-in-Some
returns-in-Some c =
    let rows = c.self.inside.rows.entries in
    let k = c.number_of.result in
    let there : IsSome (at_id rows k) = rw (c.self.view_is, c.number_of.ensures) c.requires in
    let put = replaced c.insert.result _ c.insert.new.self.entries (insert_entry nat_cmp rows k c.in-Some.last) (subst IsSome (sym (at_id-lookup rows k)) there) c.insert.ensures.absent c.insert.ensures.entries in
    rw (c.in-Some.is, ← c.number_of.ensures, ← c.self.view_is) (put ∙ placed-insert_entry rows k c.in-Some.last c.self.invariant)

pub returns-in-None : goal.returns-in-None
returns-in-None c =
    rw (c.in-None.is, ← c.number_of-in-None.ensures, ← c.self.view_is) (c.remove.ensures.entries ∙ placed-remove_entry c.self.inside.rows.entries c.number_of-in-None.result c.self.invariant)
