use Rattle.std.proofs.Common.{rules}
use Rattle.std.proofs.lemmas.Fn.{always_returns_same}
use Rattle.season_calendar.proofs.Places.{searched}
use Rattle.season_calendar.proofs.season.place_of.Goals as goal

pub returns-clause-found : goal.returns-clause-found
returns-clause-found c =
    let facts = c.binary_search_by_key.ensures in
    (searched c.args.fixtures.now c.requires c.args.f c.binary_search_by_key.result facts.bound (facts.position (λ x. x.id) (always_returns_same _ _ _ (λ a r g called. search rules)))).found

pub returns-clause-absent : goal.returns-clause-absent
returns-clause-absent c =
    let facts = c.binary_search_by_key.ensures in
    (searched c.args.fixtures.now c.requires c.args.f c.binary_search_by_key.result facts.bound (facts.position (λ x. x.id) (always_returns_same _ _ _ (λ a r g called. search rules)))).absent
