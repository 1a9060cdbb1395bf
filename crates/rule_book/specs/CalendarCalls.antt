-- The first refusal of each change of a calendar, in the order in which the rules are looked at.
use Rattle.std.specs.Prelude.{ℕ, Bool, [], ◌∷◌, Option}
use Rattle.fpl_base.specs.declared.rule.Rule.{Rule}
use Rattle.rule_book.specs.declared.season.Fixture.{Fixture}
use Rattle.rule_book.specs.Refusals.{first_broken}
use Rattle.rule_book.specs.Calendar.{CalendarFacts, deadline_passed, deadline_order, deadline_late, fixture_there, fixtures_full, gameweek_full, kickoff_early, facts_held}

-- what refuses the deadline t for gameweek g, when the moment told is now
abbrev pub deadline_refusal : CalendarFacts → ℕ → ℕ → ℕ → Option Rule
deadline_refusal c g t now =
    first_broken (deadline_passed c g t now ∷ deadline_order c g t ∷ deadline_late c g t ∷ [])

-- what refuses fixture f its place and kick-off
abbrev pub place_refusal : CalendarFacts → ℕ → Option ℕ → ℕ → Option Rule
place_refusal c f to kickoff = first_broken (gameweek_full c f to ∷ kickoff_early c f to kickoff ∷ [])

-- what refuses a new fixture
abbrev pub fixture_refusal : CalendarFacts → Fixture → Option Rule
fixture_refusal c x =
    first_broken (fixture_there c x.id ∷ fixtures_full c ∷ gameweek_full c x.id x.gw ∷ kickoff_early c x.id x.gw x.kickoff ∷ [])

-- what refuses a move of fixture f
abbrev pub move_refusal : CalendarFacts → ℕ → Option ℕ → ℕ → Bool → Option Rule
move_refusal c f to kickoff has_facts =
    first_broken (facts_held c f to has_facts ∷ gameweek_full c f to ∷ kickoff_early c f to kickoff ∷ [])
