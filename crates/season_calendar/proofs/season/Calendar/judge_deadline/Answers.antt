use Rattle.std.proofs.Common.{◌≡◌, ◌∙◌, ◌&&◌, ℕ, List, eqb, rules, find, ap}
use Rattle.rule_book.specs.declared.season.Fixture.{Fixture}
use Rattle.rule_book.specs.Calendar.{CalendarFacts, is_gameweek, is_early}
use Rattle.season_calendar.specs.contracts.season.Calendar.{the_view}
use Rattle.season_calendar.proofs.Early.{first_of_gameweek}
use Rattle.std.specs.Option.{option_map}
use Rattle.season_calendar.specs.Kept.{is_there_early}
use Rattle.season_calendar.proofs.Lawful.{list_at}
use Rattle.season_calendar.proofs.season.Calendar.judge_deadline.Goals as goal

pub returns-in-Some : goal.returns-in-Some
returns-in-Some c =
    let early = λ (v : CalendarFacts). option_map (λ (x : Fixture). x.id) (find (λ (x : Fixture). is_gameweek c.args.g x.gw && is_early c.args.t x.kickoff) v.fixtures) in
    let by_ids = λ (xs : List Fixture) (ids : List ℕ). find (λ f. is_there_early c.args.t (find (λ (x : Fixture). eqb x.id f) xs)) ids in
    let facts = the_view c.self.inside in
    let ids = c.get-2.ensures.value ∙ list_at facts c.self.inside.standing c.args.g c.self.invariant c.get-2.ensures.from_1 in
    let found : c.first_early.result ≡ early c.args.self.now = c.first_early.ensures ∙ (ap (λ xs. by_ids xs c.get-2.result.now) c.deref-2.ensures.value ∙ (ap (by_ids facts.fixtures) ids ∙ (first_of_gameweek facts.fixtures c.args.g c.args.t c.self.invariant.lawful.ids_rise ∙ ap early c.self.view_is))) in
    search (rules, found)

pub returns-in-None : goal.returns-in-None
returns-in-None c =
    let early = λ (v : CalendarFacts). option_map (λ (x : Fixture). x.id) (find (λ (x : Fixture). is_gameweek c.args.g x.gw && is_early c.args.t x.kickoff) v.fixtures) in
    let by_ids = λ (xs : List Fixture) (ids : List ℕ). find (λ f. is_there_early c.args.t (find (λ (x : Fixture). eqb x.id f) xs)) ids in
    let facts = the_view c.self.inside in
    let ids = c.get-2.ensures.value ∙ list_at facts c.self.inside.standing c.args.g c.self.invariant c.get-2.ensures.from_1 in
    let found : c.first_early.result ≡ early c.args.self.now = c.first_early.ensures ∙ (ap (λ xs. by_ids xs c.get-2.result.now) c.deref-2.ensures.value ∙ (ap (by_ids facts.fixtures) ids ∙ (first_of_gameweek facts.fixtures c.args.g c.args.t c.self.invariant.lawful.ids_rise ∙ ap early c.self.view_is))) in
    search (rules, found)
