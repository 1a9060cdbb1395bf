use Rattle.std.proofs.Common.{◌≡◌, ◌≤◌, ◌<◌, ◌-◌, ◌∙◌, ℕ, List, [], None, IfSome, AllPairs, length, get_or, set, ap, sym, subst}
use Rattle.rule_book.specs.declared.season.Fixture.{Fixture}
use Rattle.rule_book.specs.Calendar.{CalendarFacts}
use Rattle.season_calendar.specs.Kept.{IsAt, IsKept, taken_out, put_in}
use Rattle.rule_book.specs.CalendarCalls.{place_refusal}
use Rattle.season_calendar.specs.contracts.season.Calendar.{the_view}
use Rattle.std.proofs.lemmas.List.{get_or_default}
use Rattle.season_calendar.proofs.Lawful.{room_for_moved, rises_for_moved, kept_moved}
use Rattle.season_calendar.proofs.season.Calendar.replace.Goals as goal

there : (c : goal.After-put_in-arg-1) → IsAt c.self.inside.fixtures.items c.args.fixture.id c.args.at
there c = let P : CalendarFacts → Type 0 = λ v. IsAt v.fixtures c.args.fixture.id c.args.at in subst P (sym c.self.view_is) c.requires.there

within : (c : goal.After-put_in-arg-1) → IfSome c.args.fixture.gw (λ g. g ≤ length c.self.inside.deadlines.items)
within c = let P : CalendarFacts → Type 0 = λ v. IfSome c.args.fixture.gw (λ g. g ≤ length v.deadlines) in subst P (sym c.self.view_is) c.requires.in_season

can : (c : goal.After-put_in-arg-1) → place_refusal (the_view c.self.inside) c.args.fixture.id c.args.fixture.gw c.args.fixture.kickoff ≡ None
can c = let P : CalendarFacts → Type 0 = λ v. place_refusal v c.args.fixture.id c.args.fixture.gw c.args.fixture.kickoff ≡ None in subst P (sym c.self.view_is) c.requires.can_stand

-- the lists without the fixture, as it stood
without : (c : goal.After-put_in-arg-1) → c.take_out.new.self ≡ taken_out c.self.inside.standing (get_or c.self.inside.fixtures.items c.args.at c.args.fixture).gw c.args.fixture.id
without c =
    c.take_out.ensures ∙ ap (λ (x : Fixture). taken_out c.self.inside.standing x.gw c.args.fixture.id) (c.index.ensures ∙ get_or_default c.self.inside.fixtures.items c.args.at c.index.result.now c.args.fixture (there c).within)

pub put_in-requires-clause-room : goal.put_in-requires-clause-room
put_in-requires-clause-room c =
    let P : List (List ℕ) → Type 0 = λ ls. IfSome c.args.fixture.gw (λ g. length (get_or ls (g - 1) []) < 20) in
    subst P (sym (without c)) (room_for_moved (the_view c.self.inside) c.self.inside.standing c.args.fixture c.args.at c.self.invariant (there c) c.args.fixture.gw c.args.fixture.kickoff c.requires.from_1 (within c) (can c))

pub put_in-requires-clause-rise : goal.put_in-requires-clause-rise
put_in-requires-clause-rise c =
    let P : List (List ℕ) → Type 0 = λ ls. IfSome c.args.fixture.gw (λ g. AllPairs (λ a b. a < b) (get_or ls (g - 1) [])) in
    subst P (sym (without c)) (rises_for_moved (the_view c.self.inside) c.self.inside.standing c.args.fixture c.args.at c.self.invariant (there c) c.args.fixture.gw c.requires.from_1 (within c))

pub invariant_of-self : goal.invariant_of-self
invariant_of-self c =
    let facts = the_view c.self.inside in
    let x = c.args.fixture in
    let at : IsAt facts.fixtures x.id c.args.at = let P : CalendarFacts → Type 0 = λ v. IsAt v.fixtures x.id c.args.at in subst P (sym c.self.view_is) c.requires.there in
    let in_season : IfSome x.gw (λ g. g ≤ length facts.deadlines) = let P : CalendarFacts → Type 0 = λ v. IfSome x.gw (λ g. g ≤ length v.deadlines) in subst P (sym c.self.view_is) c.requires.in_season in
    let free : place_refusal facts x.id x.gw x.kickoff ≡ None = let P : CalendarFacts → Type 0 = λ v. place_refusal v x.id x.gw x.kickoff ≡ None in subst P (sym c.self.view_is) c.requires.can_stand in
    let stood = c.index.ensures ∙ get_or_default facts.fixtures c.args.at c.index.result.now x at.within in
    let lists = c.put_in.ensures ∙ ap (λ ls. put_in ls x.gw x.id) (c.take_out.ensures ∙ ap (λ (y : Fixture). taken_out c.self.inside.standing y.gw x.id) stood) in
    let P : List (List ℕ) → Type 0 = λ ls. IsKept (record facts { fixtures = set facts.fixtures c.args.at x }) ls in
    subst P (sym lists) (kept_moved facts c.self.inside.standing x c.args.at c.self.invariant at c.requires.from_1 in_season free)
