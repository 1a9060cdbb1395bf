-- What stands at a place among players by ascending id, and what an edit at that place does.
use Rattle.std.proofs.Common.{◌≡◌, ◌≢◌, ℕ, zero, suc, ◌+◌, ◌-◌, ◌<◌, List, [], ◌∷◌, length, get_or, set, take, drop, Bool, true, false, nat_lt, Some, None, refl, sym, ap, ◌∙◌, subst, arith}
use Rattle.std.specs.Prelude.{All, AllPairs, filter}
use Rattle.std.specs.List.{insert, HoldsAt}
use Rattle.std.proofs.lemmas.List.{append-nil, take-append-drop}
use Rattle.std.proofs.lemmas.List.Elements.{All-cons, All-head, All-tail, All-append, All-take, All-drop, filter-append}
use Rattle.std.proofs.lemmas.List.Edits.{length-insert, get_or-insert_below, get_or-insert_at, get_or-insert_above}
use Rattle.std.proofs.lemmas.Bool.Decides.{nat_tests}
use Rattle.std.proofs.lemmas.Grind.{common_steps}
use Rattle.rule_book.specs.declared.player.Player.{Player}
use Rattle.rule_book.specs.Players.{ArePlayers, IsPrice, player_of, with_player, with_change, most_players}
use Rattle.player_market.specs.Places.{StandsAt, IsPlaceFor}

-- the ids rise
abbrev pub Rise : List Player → Type 0
Rise players = AllPairs (λ p q. p.id < q.id) players

rise_tail : (p : Player) (ps : List Player) → Rise (p ∷ ps) → Rise ps
rise_tail p ps rise i j d lt within = rise (suc i) (suc j) d (omega arith) (omega arith)

first_below : (p : Player) (ps : List Player) → Rise (p ∷ ps) → All (λ q. p.id < q.id) ps
first_below p ps rise k d within = rise 0 (suc k) d (omega arith) (omega arith)

-- a player who stands at a place is the one of his id
pub player_at : (players : List Player) (id at : ℕ) (d : Player) → Rise players → at < length players → HoldsAt (λ p. p.id ≡ id) players at → player_of players id ≡ Some (get_or players at d)
player_at [] id at d rise within has = absurd (omega arith)
player_at (p ∷ ps) id zero d rise within has = let e : p.id ≡ id = has p in grind (arith, nat_tests)
player_at (p ∷ ps) id (suc at) d rise within has =
    let lt : p.id < (get_or ps at d).id = first_below p ps rise at d (omega arith) in
    let e : (get_or ps at d).id ≡ id = has d in
    let more : player_of ps id ≡ Some (get_or ps at d) = player_at ps id at d (rise_tail p ps rise) (omega arith) has in
    grind (arith, nat_tests)

-- an id that no player has is not found
pub player_absent : (players : List Player) (id : ℕ) → All (λ p. p.id ≢ id) players → player_of players id ≡ None
player_absent [] id none = refl
player_absent (p ∷ ps) id none =
    let ne : p.id ≢ id = All-head (λ p. p.id ≢ id) p ps none in
    let more : player_of ps id ≡ None = player_absent ps id (All-tail (λ p. p.id ≢ id) p ps none) in
    grind (arith, nat_tests)

-- a change of an id that no player has changes nobody
change_absent : (change : Player → Player) (players : List Player) (id : ℕ) → All (λ p. p.id ≢ id) players → with_change change players id ≡ players
change_absent change [] id none = refl
change_absent change (p ∷ ps) id none =
    let ne : p.id ≢ id = All-head (λ p. p.id ≢ id) p ps none in
    let more : with_change change ps id ≡ ps = change_absent change ps id (All-tail (λ p. p.id ≢ id) p ps none) in
    grind (arith, nat_tests)

-- a change at the place of a player is the change of the player
pub change_at : (change : Player → Player) (players : List Player) (id at : ℕ) (d : Player) → Rise players → at < length players → HoldsAt (λ p. p.id ≡ id) players at → set players at (change (get_or players at d)) ≡ with_change change players id
change_at change [] id at d rise within has = absurd (omega arith)
change_at change (p ∷ ps) id zero d rise within has =
    let e : p.id ≡ id = has p in
    let more : with_change change ps id ≡ ps = change_absent change ps id (λ k d lt. let low : p.id < (get_or ps k d).id = first_below p ps rise k d lt in λ same. omega arith) in
    grind (arith, nat_tests)
change_at change (p ∷ ps) id (suc at) d rise within has =
    let lt : p.id < (get_or ps at d).id = first_below p ps rise at d (omega arith) in
    let e : (get_or ps at d).id ≡ id = has d in
    let more : set ps at (change (get_or ps at d)) ≡ with_change change ps id = change_at change ps id at d (rise_tail p ps rise) (omega arith) has in
    grind (arith, nat_tests)

-- what is read at the place of a player is the one of his id
pub player_here : (players : List Player) (id at : ℕ) (p : Player) → Rise players → StandsAt players id at → p ≡ get_or players at p → Some p ≡ player_of players id
player_here players id at p rise stands read = ap Some read ∙ sym (player_at players id at p rise stands.within stands.has_id)

-- so is a change that is written there
pub change_here : (change : Player → Player) (players : List Player) (id at : ℕ) (p : Player) → Rise players → StandsAt players id at → p ≡ get_or players at p → set players at (change p) ≡ with_change change players id
change_here change players id at p rise stands read = ap (λ q. set players at (change q)) read ∙ change_at change players id at p rise stands.within stands.has_id

-- nobody has an id that has a place to come to
others : (players : List Player) (id at : ℕ) → IsPlaceFor players id at → All (λ p. p.id ≢ id) players
others players id at place k d lt same = grind (arith, place.smaller k d, place.greater k d)

pub change_nobody : (change : Player → Player) (players : List Player) (id at : ℕ) → IsPlaceFor players id at → players ≡ with_change change players id
change_nobody change players id at place = sym (change_absent change players id (others players id at place))

pub player_nowhere : (players : List Player) (id at : ℕ) → IsPlaceFor players id at → None ≡ player_of players id
player_nowhere players id at place = sym (player_absent players id (others players id at place))

-- a filter keeps a list whose elements all pass, and leaves nothing of one whose elements all fail
filter_all : (test : Player → Bool) (ps : List Player) → All (λ p. test p ≡ true) ps → filter test ps ≡ ps
filter_all test [] pass = refl
filter_all test (p ∷ ps) pass =
    let here : test p ≡ true = All-head (λ p. test p ≡ true) p ps pass in
    let more : filter test ps ≡ ps = filter_all test ps (All-tail (λ p. test p ≡ true) p ps pass) in
    rw (here, more) refl

filter_none : (test : Player → Bool) (ps : List Player) → All (λ p. test p ≡ false) ps → filter test ps ≡ []
filter_none test [] fail = refl
filter_none test (p ∷ ps) fail =
    let here : test p ≡ false = All-head (λ p. test p ≡ false) p ps fail in
    let more : filter test ps ≡ [] = filter_none test ps (All-tail (λ p. test p ≡ false) p ps fail) in
    rw here more

module _ (players : List Player) (new : Player) (at : ℕ) (place : IsPlaceFor players new.id at) where
  below_here : All (λ p. nat_lt p.id new.id ≡ true) (take at players) × All (λ p. nat_lt new.id p.id ≡ false) (take at players)
  below_here = (λ k d lt. grind (arith, nat_tests, common_steps, place.smaller k d, place.within), λ k d lt. grind (arith, nat_tests, common_steps, place.smaller k d, place.within))

  above_here : All (λ p. nat_lt p.id new.id ≡ false) (drop at players) × All (λ p. nat_lt new.id p.id ≡ true) (drop at players)
  above_here = (λ k d lt. grind (arith, nat_tests, common_steps, place.greater (at + k) d, place.within), λ k d lt. grind (arith, nat_tests, common_steps, place.greater (at + k) d, place.within))

  -- an insert at the place is the list with the new player
  pub insert_at : insert players at new ≡ with_player players new
  insert_at = sym (rw (front, back) refl)
    where
      front : filter (λ p. nat_lt p.id new.id) players ≡ take at players
      front = ap (filter (λ p. nat_lt p.id new.id)) (sym (take-append-drop at players)) ∙ filter-append (λ p. nat_lt p.id new.id) (take at players) (drop at players)
          ∙ (rw (filter_all (λ p. nat_lt p.id new.id) (take at players) below_here.0, filter_none (λ p. nat_lt p.id new.id) (drop at players) above_here.0) (append-nil (take at players)))

      back : filter (λ p. nat_lt new.id p.id) players ≡ drop at players
      back = ap (filter (λ p. nat_lt new.id p.id)) (sym (take-append-drop at players)) ∙ filter-append (λ p. nat_lt new.id p.id) (take at players) (drop at players)
          ∙ (rw (filter_none (λ p. nat_lt new.id p.id) (take at players) below_here.1, filter_all (λ p. nat_lt new.id p.id) (drop at players) above_here.1) refl)

  -- the ids still rise: each is an old one below the place, the new one at it, or an old one moved up by one
  rise_insert : Rise players → Rise (insert players at new)
  rise_insert rise i j d lt within =
      let after = insert players at new in
      let longer = length-insert players at new place.within in
      let below : (k : ℕ) → k < at → (get_or after k d).id ≡ (get_or players k d).id = λ k h. ap (λ p. p.id) (get_or-insert_below players at new d k h place.within) in
      let here : (k : ℕ) → k ≡ at → (get_or after k d).id ≡ new.id = λ k h. rw h (ap (λ p. p.id) (get_or-insert_at players at new d place.within)) in
      let above : (k : ℕ) → at < k → (get_or after k d).id ≡ (get_or players (k - 1) d).id = λ k h. subst (λ q. (get_or after q d).id ≡ (get_or players (k - 1) d).id) {x = k - 1 + 1} (omega arith) (ap (λ p. p.id) (get_or-insert_above players at new d (k - 1) (omega arith) place.within)) in
      grind (arith, below i, here i, above i, below j, here j, above j, rise i j d, rise i (j - 1) d, rise (i - 1) (j - 1) d, place.smaller i d, place.greater (j - 1) d)

  priced_insert : IsPrice new.price → All (λ p. IsPrice p.price) players → All (λ p. IsPrice p.price) (insert players at new)
  priced_insert price priced =
      All-append (λ p. IsPrice p.price) (take at players) (new ∷ drop at players) (All-take (λ p. IsPrice p.price) at players priced)
      (All-cons (λ p. IsPrice p.price) new (drop at players) price (All-drop (λ p. IsPrice p.price) at players priced))

  -- they are still players of a season
  pub are_players_insert : ArePlayers players → length players < most_players → IsPrice new.price → ArePlayers (insert players at new)
  are_players_insert are room price = record {
    ascending = rise_insert are.ascending;
    priced = priced_insert price are.priced;
    few = omega (arith, length-insert players at new place.within);
  }
