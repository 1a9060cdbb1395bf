-- What is found of a player among the players, and of a fixture among the fixtures.
use Rattle.std.proofs.Common.{◌≡◌, ◌==◌, ℕ, Bool, true, false, cond, List, [], ◌∷◌, Option, Some, arith, refl, sym, ap, ◌∙◌}
use Rattle.std.specs.List.{find}
use Rattle.std.proofs.lemmas.Bool.Decides.{nat_tests}
use Rattle.std.proofs.lemmas.Option.{same_Some, none-some}
use Rattle.rule_book.specs.declared.player.Player.{Player}
use Rattle.rule_book.specs.declared.season.Fixture.{Fixture}
use Rattle.rule_book.specs.Calendar.{CalendarFacts, fixture_of}
use Rattle.rule_book.specs.Players.{player_of}

passes_case : {X : Type 0} (test : X → Bool) (x y : X) (rest : Option X) (b : Bool) → test y ≡ b → (rest ≡ Some x → test x ≡ true) → cond b (Some y) rest ≡ Some x → test x ≡ true
passes_case test x y rest true is more at = ap test (sym (same_Some y x at)) ∙ is
passes_case test x y rest false is more at = more at

-- what is found passes
found_passes : {X : Type 0} (test : X → Bool) (xs : List X) (x : X) → find test xs ≡ Some x → test x ≡ true
found_passes test [] x at = absurd (none-some x at)
found_passes test (y ∷ ys) x at = passes_case test x y (find test ys) (test y) refl (found_passes test ys x) at

same_id : (m n : ℕ) → (m == n) ≡ true → m ≡ n
same_id m n is = grind (arith, nat_tests, is)

-- the player that is found by an id has it
pub player_has_id : (players : List Player) (p : ℕ) (player : Player) → player_of players p ≡ Some player → player.id ≡ p
player_has_id players p player at = same_id player.id p (found_passes (λ x. x.id == p) players player at)

-- so has the fixture that is found by one
pub fixture_has_id : (calendar : CalendarFacts) (f : ℕ) (fixture : Fixture) → fixture_of calendar f ≡ Some fixture → fixture.id ≡ f
fixture_has_id calendar f fixture at = same_id fixture.id f (found_passes (λ x. x.id == f) calendar.fixtures fixture at)
