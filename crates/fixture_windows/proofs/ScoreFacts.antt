-- A score by one player after the other is the score of all.
use Rattle.std.proofs.Common.{◌≡◌, ◌∙◌, sym, ap, refl, subst, ℕ, ◌+◌, ◌<◌, ◌≤◌, Bool, true, false, not, ◌&&◌, ◌||◌, ◌==◌, cond, ◌∷◌, Some, None, arith, drop, filter, get_or, length, sum_by, if◌then◌else◌}
use Rattle.std.specs.List.{list_all}
use Rattle.std.proofs.lemmas.Bool.Decides.{nat_tests}
use Rattle.std.proofs.lemmas.List.{at_drop_all, at_drop_more}
use Rattle.std.proofs.lemmas.Option.{same_Some}
use Rattle.std.proofs.lemmas.List.Sums.{sum_by-cons}
use Rattle.rule_book.specs.declared.line.Line.{Line}
use Rattle.rule_book.specs.declared.season.Fixture.{Fixture}
use Rattle.rule_book.specs.MatchFacts.{Lines, has_facts, lines_of}
use Rattle.season_book.specs.Book.{Facts}
use Rattle.season_book.specs.FixturesWindow.{away_score, goals_for, has_known_goals, has_score, home_score, is_at_home, is_away, plays_for}
use Rattle.season_book.specs.LineSums.{goals_of, own_goals_of}
use Rattle.fixture_windows.specs.Scores.{score_with, with_away, with_home}
use Rattle.fixture_windows.specs.declared.score.Score.{Score}

-- the goals of one line for a side
abbrev one_for : (own other : Bool) → Line → ℕ
one_for own other line = cond own (goals_of line) 0 + cond other (own_goals_of line) 0

filtered : (f : ℕ × Line → ℕ) (test : Bool) (row : ℕ × Line) (rest : Lines) → sum_by f (cond test (row ∷ rest) rest) ≡ cond test (f row) 0 + sum_by f rest
filtered f true row rest = sum_by-cons f row rest
filtered f false row rest = omega arith

goals_more : (is_own is_other : ℕ → Bool) (row : ℕ × Line) (rest : Lines) → goals_for is_own is_other (row ∷ rest) ≡ one_for (is_own row.0) (is_other row.0) row.1 + goals_for is_own is_other rest
goals_more is_own is_other row rest =
    let own = filtered (λ r. goals_of r.1) (is_own row.0) row (filter (λ r. is_own r.0) rest) in
    let other = filtered (λ r. own_goals_of r.1) (is_other row.0) row (filter (λ r. is_other r.0) rest) in
    omega (arith, own, other)

-- what a player adds, by his side: h that he is at home, p that he plays for the club away
pub record Adds (h a : Bool) (line : Line) (old new : Score) : Type 0 where
  pub home : new.home ≡ old.home + one_for h a line
  pub away : new.away ≡ old.away + one_for a h line

nothing_adds : (h a : Bool) (line : Line) (score : Score) → ((goals_of line == 0) && (own_goals_of line == 0)) ≡ true → Adds h a line score score
nothing_adds h a line score none = record { home = by_both h a; away = by_both a h }
  where
    both : (x y : Bool) → (x && y) ≡ true → (x ≡ true) × (y ≡ true)
    both true y e = (refl, e)
    both false y e = absurd (cc e)

    none_of : (goals_of line ≡ 0) × (own_goals_of line ≡ 0)
    none_of =
        let parts = both (goals_of line == 0) (own_goals_of line == 0) none in
        (grind (arith, nat_tests, parts.0), grind (arith, nat_tests, parts.1))

    by_both : (x y : Bool) {n : ℕ} → n ≡ n + one_for x y line
    by_both true true = omega (arith, none_of.0, none_of.1)
    by_both true false = omega (arith, none_of.0)
    by_both false true = omega (arith, none_of.1)
    by_both false false = omega arith

-- where a player's goals are known, they are added
adds_by : (none h p : Bool) (line : Line) (old new : Score) → ((goals_of line == 0) && (own_goals_of line == 0)) ≡ none
    → (if none then Some old else if h then Some (with_home old line) else if not h && p then Some (with_away old line) else None) ≡ Some new
    → ((none || h || (not h && p)) ≡ true) × Adds h (not h && p) line old new
adds_by true h p line old new is e = (refl, subst (Adds h (not h && p) line old) (same_Some old new e) (nothing_adds h (not h && p) line old is))
adds_by false true p line old new is e =
    (refl, subst (Adds true false line old) (same_Some (with_home old line) new e) (record { home = omega arith; away = omega arith }))
adds_by false false true line old new is e =
    (refl, subst (Adds false true line old) (same_Some (with_away old line) new e) (record { home = omega arith; away = omega arith }))
adds_by false false false line old new is e = absurd (cc e)

-- and where they are not, nothing is
lacks_by : (none h p : Bool) (old : Score) (line : Line)
    → (if none then Some old else if h then Some (with_home old line) else if not h && p then Some (with_away old line) else None) ≡ None
    → (none || h || (not h && p)) ≡ false
lacks_by true h p old line e = absurd (cc e)
lacks_by false true p old line e = absurd (cc e)
lacks_by false false true old line e = absurd (cc e)
lacks_by false false false old line e = refl

all_more : (known rest whole : Bool) → (known && rest) ≡ whole → known ≡ true → rest ≡ whole
all_more true rest whole e holds = e
all_more false rest whole e holds = absurd (cc holds)

all_lack : (known rest whole : Bool) → (known && rest) ≡ whole → known ≡ false → whole ≡ false
all_lack true rest whole e lacks = absurd (cc lacks)
all_lack false rest whole e lacks = sym e

-- the score of the lines up to a place, and what is left of them
pub record ScoresSoFar (facts : Facts) (fixture : Fixture) (lines : Lines) (i : ℕ) (score : Score) : Type 0 where
  pub known : list_all (has_known_goals facts fixture) (drop i lines) ≡ list_all (has_known_goals facts fixture) lines
  pub home : score.home + goals_for (is_at_home facts fixture) (is_away facts fixture) (drop i lines) ≡ goals_for (is_at_home facts fixture) (is_away facts fixture) lines
  pub away : score.away + goals_for (is_away facts fixture) (is_at_home facts fixture) (drop i lines) ≡ goals_for (is_away facts fixture) (is_at_home facts fixture) lines

module _ (facts : Facts) (fixture : Fixture) (lines : Lines) (i : ℕ) (row : ℕ × Line) (within : i < length lines) (there : get_or lines i row ≡ row) (old : Score) (so : ScoresSoFar facts fixture lines i old) where
  next : {Y : Type 0} (F : Lines → Y) → F (drop i lines) ≡ F (row ∷ drop (i + 1) lines)
  next F = at_drop_more F lines i row within ∙ ap (λ r. F (r ∷ drop (i + 1) lines)) there

  adds : (new : Score) → score_with facts fixture old row ≡ Some new
      → (has_known_goals facts fixture row ≡ true) × Adds (is_at_home facts fixture row.0) (is_away facts fixture row.0) row.1 old new
  adds new e =
      adds_by ((goals_of row.1 == 0) && (own_goals_of row.1 == 0)) (is_at_home facts fixture row.0) (plays_for facts fixture.away row.0) row.1 old new refl e

  pub scores_more : (new : Score) → score_with facts fixture old row ≡ Some new → ScoresSoFar facts fixture lines (i + 1) new
  scores_more new e =
      let added = adds new e in
      let left = drop (i + 1) lines in
      record {
        known = all_more (has_known_goals facts fixture row) (list_all (has_known_goals facts fixture) left) (list_all (has_known_goals facts fixture) lines) (sym (next (list_all (has_known_goals facts fixture))) ∙ so.known) added.0;
        home = omega (arith, added.1.home, so.home, next (goals_for (is_at_home facts fixture) (is_away facts fixture)), goals_more (is_at_home facts fixture) (is_away facts fixture) row left);
        away = omega (arith, added.1.away, so.away, next (goals_for (is_away facts fixture) (is_at_home facts fixture)), goals_more (is_away facts fixture) (is_at_home facts fixture) row left);
      }

  pub scores_less : score_with facts fixture old row ≡ None → list_all (has_known_goals facts fixture) lines ≡ false
  scores_less e =
      all_lack (has_known_goals facts fixture row) (list_all (has_known_goals facts fixture) (drop (i + 1) lines)) (list_all (has_known_goals facts fixture) lines) (sym (next (list_all (has_known_goals facts fixture))) ∙ so.known)
      (lacks_by ((goals_of row.1 == 0) && (own_goals_of row.1 == 0)) (is_at_home facts fixture row.0) (plays_for facts fixture.away row.0) old row.1 e)

  -- a player adds no more than his goals or his own goals
  pub adds_few : (new : Score) → score_with facts fixture old row ≡ Some new → goals_of row.1 ≤ 65535 → own_goals_of row.1 ≤ 65535
      → (new.home ≤ old.home + 131070) × (new.away ≤ old.away + 131070)
  adds_few new e goals own =
      let added = (adds new e).1 in
      (omega (arith, added.home, few (is_at_home facts fixture row.0) (is_away facts fixture row.0)), omega (arith, added.away, few (is_away facts fixture row.0) (is_at_home facts fixture row.0)))
    where
      few : (x y : Bool) → one_for x y row.1 ≤ 131070
      few true true = omega (arith, goals, own)
      few true false = omega (arith, goals)
      few false true = omega (arith, own)
      few false false = omega arith

-- what both sides have where the score can be told, and where it can't
module _ (facts : Facts) (fixture : Fixture) where
  abbrev lines_are : Lines
  lines_are = lines_of facts.matches fixture.id

  score_by : (started known : Bool) (n : ℕ) → started ≡ true → known ≡ true → Some n ≡ (if started && known then Some n else None)
  score_by started known n s k = λ i. if sym s i && sym k i then Some n else None

  pub both_scores : (score : Score) (i : ℕ) → has_facts facts.matches fixture.id ≡ true → length lines_are ≤ i → ScoresSoFar facts fixture lines_are i score
      → (Some score.home ≡ home_score facts fixture) × (Some score.away ≡ away_score facts fixture)
  both_scores score i started past so =
      let known : list_all (has_known_goals facts fixture) lines_are ≡ true = sym so.known ∙ at_drop_all (list_all (has_known_goals facts fixture)) lines_are i past in
      let home : score.home ≡ goals_for (is_at_home facts fixture) (is_away facts fixture) lines_are =
      omega (arith, so.home, at_drop_all (goals_for (is_at_home facts fixture) (is_away facts fixture)) lines_are i past) in
      let away : score.away ≡ goals_for (is_away facts fixture) (is_at_home facts fixture) lines_are =
      omega (arith, so.away, at_drop_all (goals_for (is_away facts fixture) (is_at_home facts fixture)) lines_are i past) in (
        ap Some home ∙ score_by (has_facts facts.matches fixture.id) (list_all (has_known_goals facts fixture) lines_are) (goals_for (is_at_home facts fixture) (is_away facts fixture) lines_are) started known,
        ap Some away ∙ score_by (has_facts facts.matches fixture.id) (list_all (has_known_goals facts fixture) lines_are) (goals_for (is_away facts fixture) (is_at_home facts fixture) lines_are) started known,
      )

  not_both : (started known : Bool) → known ≡ false → (started && known) ≡ false
  not_both true known fails = fails
  not_both false known fails = refl

  no_score_by : has_score facts fixture ≡ false → (None ≡ home_score facts fixture) × (None ≡ away_score facts fixture)
  no_score_by none = (
    λ i. if sym none i then Some (goals_for (is_at_home facts fixture) (is_away facts fixture) lines_are) else None,
    λ i. if sym none i then Some (goals_for (is_away facts fixture) (is_at_home facts fixture) lines_are) else None,
  )

  pub no_score : list_all (has_known_goals facts fixture) lines_are ≡ false → (None ≡ home_score facts fixture) × (None ≡ away_score facts fixture)
  no_score unknown = no_score_by (not_both (has_facts facts.matches fixture.id) (list_all (has_known_goals facts fixture) lines_are) unknown)
