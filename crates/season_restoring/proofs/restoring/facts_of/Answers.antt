use Rattle.std.proofs.Common.{subst, sym}
use Rattle.fpl_base.specs.Keeping.{map_of}
use Rattle.season_book.specs.Book.{Facts}
use Rattle.season_records.specs.Told.{AreInOrder}
use Rattle.season_restoring.specs.Restored.{TellsFacts}
use Rattle.season_restoring.proofs.FactsTold.{are_terms, first_terms, in_order_facts, tells_facts}
use Rattle.season_restoring.proofs.restoring.facts_of.Goals as goal

pub terms_at-requires : goal.terms_at-requires
terms_at-requires c = first_terms c.args.rows.now c.requires.rise c.requires.lawful c.in-Some.first.now (sym c.in-Some.ensures.value)

pub restored-requires-clause-terms : goal.restored-requires-clause-terms
restored-requires-clause-terms c =
    are_terms c.args.rows.now c.requires.rise c.requires.lawful c.in-Some.first.now (sym c.in-Some.ensures.value) c.in_ok-terms.terms c.in_ok-terms.ensures

pub returns-clause-told : goal.returns-clause-told
returns-clause-told c =
    let terms = are_terms c.args.rows.now c.requires.rise c.requires.lawful c.in-Some.first.now (sym c.in-Some.ensures.value) c.in_ok-terms.terms c.in_ok-terms.ensures in
    subst (λ (facts : Facts). TellsFacts (map_of c.args.rows.now) facts) (sym c.in_ok-season.ensures)
    (tells_facts c.args.rows.now c.in_ok-terms.terms terms c.requires.rise c.requires.lawful)

pub returns-clause-ordered : goal.returns-clause-ordered
returns-clause-ordered c =
    let terms = are_terms c.args.rows.now c.requires.rise c.requires.lawful c.in-Some.first.now (sym c.in-Some.ensures.value) c.in_ok-terms.terms c.in_ok-terms.ensures in
    subst (λ (facts : Facts). AreInOrder facts) (sym c.in_ok-season.ensures)
    (in_order_facts c.args.rows.now c.in_ok-terms.terms terms c.requires.rise c.requires.lawful)
