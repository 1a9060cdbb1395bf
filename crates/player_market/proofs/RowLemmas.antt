-- Rows that lead to players: what a search, a read, a change and an insert among the rows are among the players.
use Rattle.std.proofs.Common.{◌≡◌, ℕ, zero, suc, ◌<◌, List, [], ◌∷◌, length, get_or, set, take, drop, map, Some, Result, Ok, Err, IfOk, IfErr, refl, sym, ap, ◌∙◌, subst, arith}
use Rattle.std.specs.List.{insert}
use Rattle.std.specs.List.Sorted.{IsSearchInRange, IsBinarySearchResult, IsNonDecreasingBy}
use Rattle.std.specs.Ordering.{nat_cmp, ordering_index}
use Rattle.std.proofs.lemmas.Cmp.{ranked}
use Rattle.std.proofs.lemmas.List.{map-append, map-set, length-map, get_or-map, length-set, get_or-set_same, get_or-set_other}
use Rattle.std.proofs.lemmas.List.Elements.{All-set}
use Rattle.std.proofs.lemmas.Bool.Decides.{nat_tests}
use Rattle.rule_book.specs.declared.player.Player.{Player}
use Rattle.rule_book.specs.Players.{ArePlayers, IsPrice, player_of, with_change}
use Rattle.player_market.specs.Places.{StandsAt, IsPlaceFor}
use Rattle.player_market.proofs.PlaceLemmas.{Rise, player_here, change_here}

-- a player changed in all but his id stands there still
are_players_set : (players : List Player) (id at : ℕ) (p : Player) → ArePlayers players → StandsAt players id at → p.id ≡ id → IsPrice p.price → ArePlayers (set players at p)
are_players_set players id at p are stands same price = record {
  ascending = λ i j d lt within.
      let longer = length-set players at p in
      let here : (k : ℕ) → k ≡ at → (get_or (set players at p) k d).id ≡ (get_or players k d).id = λ k e.
      subst (λ n. (get_or (set players at p) n d).id ≡ (get_or players n d).id) (sym e) (ap (λ q. q.id) (get_or-set_same players at p d stands.within) ∙ (same ∙ sym (stands.has_id d))) in
      let away : (k : ℕ) → (k ≡ at → ⊥) → (get_or (set players at p) k d).id ≡ (get_or players k d).id = λ k ne. ap (λ q. q.id) (get_or-set_other players at k p d ne) in
      grind (arith, here i, away i, here j, away j, are.ascending i j d, longer);
  priced = All-set (λ q. IsPrice q.price) players at p price are.priced;
  few = omega (arith, length-set players at p, are.few);
}

module _ {X : Type 0} (f : X → Player) (rows : List X) where
  -- what holds of each player that a row at a place can lead to holds of the one there
  led : (P : Player → Type 0) (at : ℕ) → at < length rows → ((x : X) → P (f (get_or rows at x))) → (d : Player) → P (get_or (map f rows) at d)
  led P at lt holds d = by rows lt holds
    where
      by : (xs : List X) → at < length xs → ((x : X) → P (f (get_or xs at x))) → P (get_or (map f xs) at d)
      by [] lt holds = absurd (omega arith)
      by (x ∷ xs) lt holds = subst P (sym (get_or-map f (x ∷ xs) at x d lt)) (holds x)

  comparisons_rise : (id : ℕ) → Rise (map f rows) → IsNonDecreasingBy (λ x. ordering_index (nat_cmp (f x).id id)) rows
  comparisons_rise id rise i j d le within =
      let at_i : (get_or (map f rows) i (f d)).id ≡ (f (get_or rows i d)).id = ap (λ p. p.id) (get_or-map f rows i d (f d) (omega arith)) in
      let at_j : (get_or (map f rows) j (f d)).id ≡ (f (get_or rows j d)).id = ap (λ p. p.id) (get_or-map f rows j d (f d) within) in
      let same : i ≡ j → (f (get_or rows i d)).id ≡ (f (get_or rows j d)).id = λ e. ap (λ k. (f (get_or rows k d)).id) e in
      let apart : i < j → (get_or (map f rows) i (f d)).id < (get_or (map f rows) j (f d)).id = λ lt. rise i j (f d) lt (omega (arith, length-map rows f)) in
      grind (arith, nat_tests)

  -- a binary search by id among the rows ends at the player, or at the place for him
  pub searched : (id : ℕ) (r : Result ℕ ℕ) → Rise (map f rows) → IsSearchInRange r (length rows) → IsBinarySearchResult (λ x. nat_cmp (f x).id id) rows r → IfOk r (StandsAt (map f rows) id) × IfErr r (IsPlaceFor (map f rows) id)
  searched id (Ok at) rise within equal = (
    record {
      within = omega (arith, within, length-map rows f);
      has_id = led (λ p. p.id ≡ id) at within (λ x. ranked _ id _ (sym (equal x)));
    },
    tt,
  )
  searched id (Err at) rise within parted = (
    tt,
    record {
      within = omega (arith, within, length-map rows f);
      smaller = λ k d low lt. led (λ p. p.id < id) k (omega (arith, within)) (λ x. ranked _ id _ (sym ((parted (comparisons_rise id rise)).0 k x low lt))) d;
      greater = λ k d low lt. led (λ p. id < p.id) k (omega (arith, lt, length-map rows f)) (λ x. ranked _ id _ (sym ((parted (comparisons_rise id rise)).1 k x low (omega (arith, lt, length-map rows f))))) d;
    },
  )

  -- player p is the one to whom the row at the place of an id leads
  module _ (id at : ℕ) (x : X) (p : Player) (are : ArePlayers (map f rows)) (stands : StandsAt (map f rows) id at) (read : x ≡ get_or rows at x) (lead : p ≡ f x) where
    led_here : p ≡ get_or (map f rows) at p
    led_here = lead ∙ (ap f read ∙ sym (get_or-map f rows at x p (omega (arith, stands.within, length-map rows f))))

    pub player_in_row : Some p ≡ player_of (map f rows) id
    player_in_row = player_here (map f rows) id at p are.ascending stands led_here

    pub price_in_row : IsPrice p.price
    price_in_row = subst (λ (q : Player). IsPrice q.price) (sym led_here) (are.priced at p stands.within)

    -- a row that is written leads to the changed player
    pub change_in_row : (change : Player → Player) (y : X) → f y ≡ change p → map f (set rows at y) ≡ with_change change (map f rows) id
    change_in_row change y e = map-set f rows at y ∙ (ap (set (map f rows) at) e ∙ change_here change (map f rows) id at p are.ascending stands led_here)

    pub are_players_written : (y : X) → (f y).id ≡ p.id → IsPrice (f y).price → ArePlayers (map f (set rows at y))
    are_players_written y same price =
        let has : p.id ≡ id = ap (λ (q : Player). q.id) led_here ∙ stands.has_id p in
        subst ArePlayers (sym (map-set f rows at y)) (are_players_set (map f rows) id at (f y) are stands (same ∙ has) price)

  map_take : (n : ℕ) (xs : List X) → map f (take n xs) ≡ take n (map f xs)
  map_take zero xs = refl
  map_take (suc n) [] = refl
  map_take (suc n) (x ∷ xs) = ap (λ l. f x ∷ l) (map_take n xs)

  map_drop : (n : ℕ) (xs : List X) → map f (drop n xs) ≡ drop n (map f xs)
  map_drop zero xs = refl
  map_drop (suc n) [] = refl
  map_drop (suc n) (x ∷ xs) = map_drop n xs

  -- a row that is inserted leads to the new player
  pub row_inserted : (at : ℕ) (x : X) (new : Player) → f x ≡ new → map f (insert rows at x) ≡ insert (map f rows) at new
  row_inserted at x new e = map-append f (take at rows) (x ∷ drop at rows) ∙ rw (map_take at rows, map_drop at rows, e) refl
