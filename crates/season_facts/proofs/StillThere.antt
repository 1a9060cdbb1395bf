-- Who is found by id is still found once another was put in or one was changed.
use Rattle.std.proofs.Common.{◌≡◌, ◌==◌, ℕ, Bool, true, List, [], ◌∷◌, ◌++◌, find, filter, nat_lt, arith, refl, inl, inr}
use Rattle.std.specs.Prelude.{is_some}
use Rattle.std.proofs.lemmas.Bool.{cases_order}
use Rattle.std.proofs.lemmas.Bool.Decides.{nat_tests}
use Rattle.rule_book.specs.declared.player.Player.{Player}
use Rattle.rule_book.specs.Players.{player_of, with_change, with_player}

module _ {X : Type 0} (test : X → Bool) where
  some_behind : (front back : List X) → is_some (find test back) ≡ true → is_some (find test (front ++ back)) ≡ true
  some_behind [] back there = there
  some_behind (x ∷ front) back there = grind (arith, nat_tests, some_behind front back there)

  some_kept : (keep : X → Bool) → ((x : X) → test x ≡ true → keep x ≡ true) → (xs more : List X) → is_some (find test xs) ≡ true
      → is_some (find test (filter keep xs ++ more)) ≡ true
  some_kept keep stay [] more there = grind (arith, there)
  some_kept keep stay (x ∷ xs) more there = grind (arith, nat_tests, there, stay x, some_kept keep stay xs more)

  some_left : (keep : X → Bool) → ((x : X) → test x ≡ true → keep x ≡ true) → (xs : List X) → is_some (find test xs) ≡ true
      → is_some (find test (filter keep xs)) ≡ true
  some_left keep stay [] there = there
  some_left keep stay (x ∷ xs) there = grind (arith, nat_tests, there, stay x, some_left keep stay xs)

-- a new player takes nobody away
pub still_with_player : (players : List Player) (new : Player) (q : ℕ) → is_some (player_of players q) ≡ true → is_some (player_of (with_player players new) q) ≡ true
still_with_player players new q there =
    let before : List Player = filter (λ p. nat_lt p.id new.id) players in
    let behind : List Player = filter (λ p. nat_lt new.id p.id) players in
    elim (cases_order q new.id) [
      | inl same ↦ some_behind (λ p. p.id == q) before (new ∷ behind) (grind (arith, nat_tests, same))
      | inr (inl lt) ↦ some_kept (λ p. p.id == q) (λ p. nat_lt p.id new.id) (λ p is. grind (arith, nat_tests, is, lt)) players (new ∷ behind) there
      | inr (inr gt) ↦
          some_behind (λ p. p.id == q) before (new ∷ behind)
          (some_behind (λ p. p.id == q) (new ∷ []) behind
          (some_left (λ p. p.id == q) (λ p. nat_lt new.id p.id) (λ p is. grind (arith, nat_tests, is, gt)) players there))
    ]

-- nor does a change that leaves the ids
pub still_with_change : (change : Player → Player) → ((p : Player) → (change p).id ≡ p.id) → (players : List Player) (id q : ℕ)
    → is_some (player_of (with_change change players id) q) ≡ is_some (player_of players q)
still_with_change change keeps [] id q = refl
still_with_change change keeps (p ∷ players) id q = grind (arith, nat_tests, keeps p, still_with_change change keeps players id q)
