-- What is found in lists.
use Rattle.std.proofs.Common.{◌≡◌, ◌<◌, ◌+◌, ◌++◌, ℕ, zero, suc, Bool, true, false, cond, List, [], ◌∷◌, Option, Some, None, ◌==◌, ◌||◌, length, take, find, arith, refl, sym, ap, ◌∙◌}
use Rattle.std.specs.List.{list_any, slice_get}
use Rattle.std.specs.Map.{keys_of}
use Rattle.std.specs.Option.{MatchOption}
use Rattle.std.specs.Prelude.{is_some}
use Rattle.std.proofs.lemmas.Bool.{false≢true, true≢false}
use Rattle.std.proofs.lemmas.Bool.Decides.{nat_tests}
use Rattle.std.proofs.lemmas.List.{take_more}
use Rattle.std.proofs.lemmas.Option.{get_or_from_slice_get, same_Some}
use Rattle.rule_book.specs.ById.{at_id}
use Rattle.rule_book.specs.Calendar.{CalendarFacts, fixture_of}
use Rattle.rule_book.specs.Players.{player_of}
use Rattle.rule_book.specs.declared.player.Player.{Player}
use Rattle.rule_book.specs.declared.season.Fixture.{Fixture}

none≢some : {X : Type 0} {x : X} → None ≡ Some x → ⊥
none≢some {X} {x} same = false≢true (ap (λ (o : Option X). is_some o) same)

-- what is found passes the test
found_passes : {X : Type 0} (test : X → Bool) (xs : List X) (x : X) → find test xs ≡ Some x → test x ≡ true
found_passes test [] x found = absurd (none≢some found)
found_passes {X} test (y ∷ xs) x found = here (test y) refl found (found_passes test xs x)
  where
    here : (b : Bool) → test y ≡ b → cond b (Some y) (find test xs) ≡ Some x → (find test xs ≡ Some x → test x ≡ true) → test x ≡ true
    here true passes is later = ap test (sym (same_Some y x is)) ∙ passes
    here false fails is later = later is

same_numbers : (m n : ℕ) → (m == n) ≡ true → m ≡ n
same_numbers m n same = grind (arith, nat_tests, same)

pub player_found : (players : List Player) (p : ℕ) (player : Player) → player_of players p ≡ Some player → player.id ≡ p
player_found players p player found = same_numbers player.id p (found_passes (λ (q : Player). q.id == p) players player found)

pub fixture_found : (calendar : CalendarFacts) (f : ℕ) (fixture : Fixture) → fixture_of calendar f ≡ Some fixture → fixture.id ≡ f
fixture_found calendar f fixture found = same_numbers fixture.id f (found_passes (λ (x : Fixture). x.id == f) calendar.fixtures fixture found)

-- nothing stands at a number that is among no ids
pub none_at : {X : Type 0} (rows : List (ℕ × X)) (k : ℕ) → list_any (λ id. id == k) (keys_of rows) ≡ false → at_id rows k ≡ None
none_at [] k none = refl
none_at {X} (row ∷ rows) k none = here (row.0 == k) none (none_at rows k)
  where
    here : (b : Bool) → (b || list_any (λ id. id == k) (keys_of rows)) ≡ false → (list_any (λ id. id == k) (keys_of rows) ≡ false → at_id rows k ≡ None)
        → cond b (Some row.1) (at_id rows k) ≡ None
    here true any later = absurd (true≢false any)
    here false any later = later any

-- where it says more of nothing
pub none_instead : {A B : Type 0} (r : Option ℕ) (Q : ℕ → Type 0) → (A → B) → MatchOption r A Q → MatchOption r B Q
none_instead None Q more none = more none
none_instead (Some x) Q more some = some

-- a thing more is taken
pub next_taken : {X : Type 0} (xs : List X) (i : ℕ) (x : X) → i < length xs → slice_get xs i ≡ Some x → take i xs ++ x ∷ [] ≡ take (i + 1) xs
next_taken {X} xs i x within there = ap (λ (y : X). take i xs ++ y ∷ []) (sym (get_or_from_slice_get xs i x x there)) ∙ sym (take_more xs i x within)

-- what is there stands within
pub there_within : {X : Type 0} (xs : List X) (i : ℕ) (x : X) → slice_get xs i ≡ Some x → i < length xs
there_within [] i x there = absurd (none≢some there)
there_within (y ∷ xs) zero x there = omega arith
there_within (y ∷ xs) (suc i) x there = let later : i < length xs = there_within xs i x there in omega (arith, later)

-- what is not there does not
pub none_within : {X : Type 0} (xs : List X) (i : ℕ) → slice_get xs i ≡ None → length xs < i + 1
none_within [] i none = omega arith
none_within (y ∷ xs) zero none = absurd (none≢some (sym none))
none_within (y ∷ xs) (suc i) none = let later : length xs < i + 1 = none_within xs i none in omega (arith, later)
