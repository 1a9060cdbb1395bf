-- Where a fixture stands that came or moved.
use Rattle.std.proofs.Common.{◌≡◌, ℕ, ◌==◌, nat_lt, Bool, true, false, cond, ◌||◌, List, [], ◌∷◌, Option, Some, None, is_some, map, refl, sym, ◌∙◌, ap, arith}
use Rattle.std.specs.List.{filter, find, list_any}
use Rattle.std.specs.Option.{option_and_then, option_or}
use Rattle.std.proofs.lemmas.Bool.{false≢true}
use Rattle.std.proofs.lemmas.Bool.Decides.{nat_tests}
use Rattle.std.proofs.lemmas.List.Folds.{find-append}
use Rattle.fpl_base.specs.declared.rule.Rule.{Rule}
use Rattle.rule_book.specs.declared.season.Fixture.{Fixture}
use Rattle.rule_book.specs.Calendar.{CalendarFacts, fixture_of, moved_to, stands_in, with_fixture, with_move}
use Rattle.rule_book.specs.CalendarCalls.{fixture_refusal}
use Rattle.rule_book.specs.Refusals.{first_broken}
use Rattle.season_graph.proofs.PlaceChanges.{find_lost}

same_test : (n : ℕ) → (n == n) ≡ true
same_test n = grind (arith, nat_tests)

not_lower : (n f : ℕ) → (n == f) ≡ true → nat_lt n f ≡ false
not_lower n f e = grind (arith, nat_tests, e)

-- one that comes is found
pub comes_there : (c : CalendarFacts) (x : Fixture) → stands_in (with_fixture c x) x.id ≡ x.gw
comes_there c x =
    let t : Fixture → Bool = λ y. y.id == x.id in
    let low : Fixture → Bool = λ y. nat_lt y.id x.id in
    let high : Fixture → Bool = λ y. nat_lt x.id y.id in
    ap (option_and_then (λ y. y.gw))
    (find-append t (filter low c.fixtures) (x ∷ filter high c.fixtures)
    ∙ ap (λ o. option_or o (find t (x ∷ filter high c.fixtures))) (find_lost t low c.fixtures (λ y e. not_lower y.id x.id e))
    ∙ ap (λ b. cond b (Some x) (find t (filter high c.fixtures))) (same_test x.id))

-- it stood nowhere
none_case : (x : Fixture) (rest : Option Fixture) (t : Bool) → rest ≡ None → t ≡ false → cond t (Some x) rest ≡ None
none_case x rest t r off = ap (λ u. cond u (Some x) rest) off ∙ r

or_false : (a b : Bool) → (a || b) ≡ false → (a ≡ false) × (b ≡ false)
or_false false b e = (refl, e)
or_false true b e = absurd (false≢true (sym e))

none_there : (xs : List Fixture) (f : ℕ) → list_any (λ x. x.id == f) xs ≡ false → find (λ x. x.id == f) xs ≡ None
none_there [] f none = refl
none_there (x ∷ xs) f none =
    let parts = or_false (x.id == f) (list_any (λ y. y.id == f) xs) none in
    none_case x (find (λ y. y.id == f) xs) (x.id == f) (none_there xs f parts.1) parts.0

unbroken_test : (t : Bool) (rule : Rule) (more : List (Option Rule)) → first_broken (cond t (Some rule) None ∷ more) ≡ None → t ≡ false
unbroken_test true rule more e = cc
unbroken_test false rule more e = refl

pub comes_from_nowhere : (c : CalendarFacts) (x : Fixture) → fixture_refusal c x ≡ None → stands_in c x.id ≡ None
comes_from_nowhere c x unbroken =
    ap (option_and_then (λ y. y.gw)) (none_there c.fixtures x.id (unbroken_test (list_any (λ y. y.id == x.id) c.fixtures) _ _ unbroken))

-- one that moves stands where it is moved
moved_found : (xs : List Fixture) (f : ℕ) (to : Option ℕ) (kickoff : ℕ) → is_some (find (λ x. x.id == f) xs) ≡ true
    → option_and_then (λ x. x.gw) (find (λ x. x.id == f) (map (moved_to f to kickoff) xs)) ≡ to
moved_found [] f to kickoff there = absurd (false≢true there)
moved_found (x ∷ xs) f to kickoff there = by_case (λ e. moved_found xs f to kickoff e) (x.id == f) refl
  where
    by_case : (is_some (find (λ y. y.id == f) xs) ≡ true → option_and_then (λ y. y.gw) (find (λ y. y.id == f) (map (moved_to f to kickoff) xs)) ≡ to)
        → (t : Bool) → (x.id == f) ≡ t → option_and_then (λ y. y.gw) (find (λ y. y.id == f) (map (moved_to f to kickoff) (x ∷ xs))) ≡ to
    by_case later true e =
        ap (λ y. option_and_then (λ z. z.gw) (cond (y.id == f) (Some y) (find (λ z. z.id == f) (map (moved_to f to kickoff) xs)))) (ap (λ t. cond t (record x { gw = to; kickoff = kickoff }) x) e)
        ∙ ap (λ t. option_and_then (λ z. z.gw) (cond t (Some (record x { gw = to; kickoff = kickoff })) (find (λ z. z.id == f) (map (moved_to f to kickoff) xs)))) e
    by_case later false e =
        ap (λ y. option_and_then (λ z. z.gw) (cond (y.id == f) (Some y) (find (λ z. z.id == f) (map (moved_to f to kickoff) xs)))) (ap (λ t. cond t (record x { gw = to; kickoff = kickoff }) x) e)
        ∙ ap (λ t. option_and_then (λ z. z.gw) (cond t (Some x) (find (λ z. z.id == f) (map (moved_to f to kickoff) xs)))) e
        ∙ later (sym (ap (λ t. is_some (cond t (Some x) (find (λ y. y.id == f) xs))) e) ∙ there)

pub moves_there : (c : CalendarFacts) (f : ℕ) (to : Option ℕ) (kickoff : ℕ) → is_some (fixture_of c f) ≡ true → stands_in (with_move c f to kickoff) f ≡ to
moves_there c f to kickoff there = moved_found c.fixtures f to kickoff there
