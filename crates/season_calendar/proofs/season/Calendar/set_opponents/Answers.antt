use Rattle.std.proofs.Common.{◌≡◌, ◌∙◌, true, get_or, set, ap, sym, subst}
use Rattle.std.specs.Prelude.{is_some}
use Rattle.rule_book.specs.declared.season.Fixture.{Fixture}
use Rattle.rule_book.specs.Calendar.{CalendarFacts, fixture_of}
use Rattle.season_calendar.specs.Kept.{IsAt}
use Rattle.season_calendar.specs.contracts.season.Calendar.{the_view}
use Rattle.season_calendar.proofs.Lawful.{fixtures_are, kept_between}
use Rattle.season_calendar.proofs.Places.{between_at, none_found_at}
use Rattle.season_calendar.proofs.season.Calendar.set_opponents.Goals as goal

pub unreachable-requires : goal.unreachable-requires
unreachable-requires c =
    let gap = rw c.deref.ensures.value at c.in-Err.ensures.absent in
    let none = none_found_at c.self.inside.fixtures.items c.args.f c.in-Err.field-0 gap in
    let there : is_some (fixture_of (the_view c.self.inside) c.args.f) ≡ true = let P : CalendarFacts → Type 0 = λ v. is_some (fixture_of v c.args.f) ≡ true in subst P (sym c.self.view_is) c.requires.there in
    cc (rw none at there)

pub invariant_of-self : goal.invariant_of-self
invariant_of-self c =
    let at : IsAt c.self.inside.fixtures.items c.args.f c.in-Ok.at = rw c.deref.ensures.value at c.in-Ok.ensures.found in
    kept_between (the_view c.self.inside) c.self.inside.standing c.in-Ok.at c.index-fixture.result.now c.args.home c.args.away c.self.invariant at.within c.index-fixture.ensures

pub returns : goal.returns
returns c =
    let now = c.args.self.now in
    let at = c.in-Ok.at in
    let here : IsAt c.self.inside.fixtures.items c.args.f at = rw c.deref.ensures.value at c.in-Ok.ensures.found in
    let there : IsAt now.fixtures c.args.f at = let P : CalendarFacts → Type 0 = λ v. IsAt v.fixtures c.args.f at in subst P c.self.view_is here in
    let read = c.index-fixture.ensures ∙ ap (λ (v : CalendarFacts). get_or v.fixtures at c.index-fixture.result.now) c.self.view_is in
    let changed = ap (λ (y : Fixture). set now.fixtures at (record y { home = c.args.home; away = c.args.away })) read
    ∙ sym (between_at now.fixtures c.args.f at there c.args.home c.args.away c.index-fixture.result.now) in
    ap (λ (v : CalendarFacts). record v { fixtures = set v.fixtures at (record c.index-fixture.result.now { home = c.args.home; away = c.args.away }) }) c.self.view_is
    ∙ fixtures_are now _ _ changed
