use Rattle.std.proofs.Common.{◌≡◌, ◌∙◌, true, get_or, set, ap, sym, subst}
use Rattle.std.specs.Prelude.{is_some}
use Rattle.rule_book.specs.declared.season.Fixture.{Fixture}
use Rattle.rule_book.specs.Calendar.{CalendarFacts, fixture_of}
use Rattle.season_calendar.specs.Kept.{IsAt}
use Rattle.season_calendar.specs.contracts.season.Calendar.{the_view}
use Rattle.season_calendar.proofs.Lawful.{fixtures_are}
use Rattle.season_calendar.proofs.Places.{moved_at, none_found_at}
use Rattle.season_calendar.proofs.season.Calendar.move_fixture.Goals as goal

pub unreachable-requires : goal.unreachable-requires
unreachable-requires c =
    let gap = rw c.deref.ensures.value at c.in-Err-place_of.ensures.absent in
    let none = none_found_at c.self.inside.fixtures.items c.args.f c.in-Err-place_of.field-0 gap in
    let there : is_some (fixture_of (the_view c.self.inside) c.args.f) ≡ true = let P : CalendarFacts → Type 0 = λ v. is_some (fixture_of v c.args.f) ≡ true in subst P (sym c.self.view_is) c.requires.there in
    cc (rw none at there)

pub returns-clause-ok : goal.returns-clause-ok
returns-clause-ok c =
    let now = c.args.self.now in
    let at = c.in-Ok.at in
    let here : IsAt c.self.inside.fixtures.items c.args.f at = rw c.deref.ensures.value at c.in-Ok.ensures.found in
    let there : IsAt now.fixtures c.args.f at = let P : CalendarFacts → Type 0 = λ v. IsAt v.fixtures c.args.f at in subst P c.self.view_is here in
    let read = c.index-fixture.ensures ∙ ap (λ (v : CalendarFacts). get_or v.fixtures at c.index-fixture.result.now) c.self.view_is in
    let moved = ap (λ (y : Fixture). set now.fixtures at (record y { gw = c.args.to; kickoff = c.args.kickoff })) read
    ∙ sym (moved_at now.fixtures c.args.f at there c.args.to c.args.kickoff c.index-fixture.result.now) in
    c.replace.ensures ∙ fixtures_are now _ _ moved
