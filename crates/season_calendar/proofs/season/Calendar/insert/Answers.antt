use Rattle.std.proofs.Common.{◌≡◌, ◌≤◌, ◌<◌, ◌∙◌, None, IfSome, ap, length, sym, subst}
use Rattle.rule_book.specs.Calendar.{CalendarFacts, with_fixture}
use Rattle.season_calendar.specs.Kept.{IsGap}
use Rattle.rule_book.specs.CalendarCalls.{place_refusal}
use Rattle.season_calendar.specs.contracts.season.Calendar.{the_view}
use Rattle.season_calendar.proofs.Lawful.{room_for_new, rises_for_new, kept_with_new, inserted, fixtures_are}
use Rattle.season_calendar.proofs.season.Calendar.insert.Goals as goal

pub put_in-requires-clause-room : goal.put_in-requires-clause-room
put_in-requires-clause-room c =
    let x = c.args.fixture in
    let gap = let P : CalendarFacts → Type 0 = λ v. IsGap v.fixtures x.id c.args.at in subst P (sym c.self.view_is) c.requires.gap in
    let can = let P : CalendarFacts → Type 0 = λ v. place_refusal v x.id x.gw x.kickoff ≡ None in subst P (sym c.self.view_is) c.requires.can_stand in
    room_for_new _ _ x c.args.at c.self.invariant gap x.gw x.kickoff c.requires.from_1 can

pub put_in-requires-clause-rise : goal.put_in-requires-clause-rise
put_in-requires-clause-rise c =
    let x = c.args.fixture in
    let gap = let P : CalendarFacts → Type 0 = λ v. IsGap v.fixtures x.id c.args.at in subst P (sym c.self.view_is) c.requires.gap in
    rises_for_new _ _ x c.args.at c.self.invariant gap x.gw c.requires.from_1

pub invariant_of-self-2 : goal.invariant_of-self-2
invariant_of-self-2 c =
    let x = c.args.fixture in
    let gap = let P : CalendarFacts → Type 0 = λ v. IsGap v.fixtures x.id c.args.at in subst P (sym c.self.view_is) c.requires.gap in
    let room = let P : CalendarFacts → Type 0 = λ v. length v.fixtures < 380 in subst P (sym c.self.view_is) c.requires.not_full in
    let within = let P : CalendarFacts → Type 0 = λ v. IfSome x.gw (λ g. g ≤ length v.deadlines) in subst P (sym c.self.view_is) c.requires.in_season in
    let can = let P : CalendarFacts → Type 0 = λ v. place_refusal v x.id x.gw x.kickoff ≡ None in subst P (sym c.self.view_is) c.requires.can_stand in
    rw (c.in_ok-insert.ensures.items, c.put_in.ensures) (kept_with_new _ _ x c.args.at c.self.invariant gap room c.requires.from_1 within can)

pub returns-clause-ok : goal.returns-clause-ok
returns-clause-ok c =
    let x = c.args.fixture in
    let gap = let P : CalendarFacts → Type 0 = λ v. IsGap v.fixtures x.id c.args.at in subst P (sym c.self.view_is) c.requires.gap in
    fixtures_are (the_view c.self.inside) _ _ (c.in_ok-insert.ensures.items ∙ sym (inserted _ _ x c.args.at c.self.invariant gap)) ∙ ap (λ v. with_fixture v x) c.self.view_is
