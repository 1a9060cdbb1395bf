-- A batch that fits the team before it can be done swap by swap, and keeps what a team keeps.
use Rattle.std.proofs.Common.{◌≡◌, ◌≢◌, ◌<◌, ◌∷◌, [], ◌++◌, ℕ, Bool, true, false, not, ◌||◌, Option, Some, None, List, map, length, get_or, arith, refl, sym, ap, ◌∙◌, subst, ⊎_elim, nat_eq}
use Rattle.std.specs.Prelude.{All, find, ⊤}
use Rattle.std.specs.List.{list_any}
use Rattle.std.specs.Option.{option_map, option_map_or}
use Rattle.std.proofs.lemmas.Bool.{cases_eq}
use Rattle.std.proofs.lemmas.Bool.Decides.{nat_tests}
use Rattle.std.proofs.lemmas.List.{get_or-map, length-map, map-id}
use Rattle.std.proofs.lemmas.List.Elements.{All-head, All-tail, All-cons, All-nil}
use Rattle.std.proofs.lemmas.List.Folds.{list_any-append, list_any_at}
use Rattle.fpl_base.specs.declared.kinds.Position.{Position}
use Rattle.fpl_base.specs.declared.kinds.Position.TheVariants.{Keeper, Defender, Midfielder, Forward}
use Rattle.rule_book.specs.declared.player.Player.{Player}
use Rattle.rule_book.specs.declared.team.Pick.{Pick}
use Rattle.rule_book.specs.declared.transfers.Swap.{Swap}
use Rattle.rule_book.specs.declared.transfers.Sale.{Sale}
use Rattle.rule_book.specs.Players.{player_of}
use Rattle.player_market.proofs.TradeLemmas.{found_has}
use Rattle.rule_book.specs.Batch.{is_held, first_barred, first_moved, moves_position, plays_at, pick_of, is_same_position, sale_of, sales_of, place_taken, place_given, pick_after, picks_after, GoOneByOne, AreDifferent, ArePlaced, HavePositions}

eq_true : (a b : ℕ) → a ≡ b → nat_eq a b ≡ true
eq_true a b e = grind (arith, nat_tests)

eq_false : (a b : ℕ) → a ≢ b → nat_eq a b ≡ false
eq_false a b n = grind (arith, nat_tests)

or_left : (a b : Bool) → (a || b) ≡ false → a ≡ false
or_left false b e = refl
or_left true b e = e

or_right : (a b : Bool) → (a || b) ≡ false → b ≡ false
or_right false b e = e
or_right true b e = cc

-- nobody of the swaps has a name
abbrev pub NotNamed : (Swap → ℕ) → ℕ → List Swap → Type 0
NotNamed named p [] = ⊤
NotNamed named p (s ∷ swaps) = (p ≢ named s) × NotNamed named p swaps

-- none of the names is barred, and no two are the same
abbrev pub Distinct : (Swap → ℕ) → (ℕ → Bool) → List Swap → Type 0
Distinct named barred [] = ⊤
Distinct named barred (s ∷ swaps) = (barred (named s) ≡ false) × NotNamed named (named s) swaps × Distinct named barred swaps

module _ (named : Swap → ℕ) (barred : ℕ → Bool) where
  -- what a search that found nobody went past
  step_of : (before : List Swap) (s : Swap) (swaps : List Swap) → first_barred named barred before (s ∷ swaps) ≡ None
      → ((barred (named s) || list_any (λ e. nat_eq (named e) (named s)) before) ≡ false) × (first_barred named barred (before ++ s ∷ []) swaps ≡ None)
  step_of before s swaps found = by_test (barred (named s) || list_any (λ e. nat_eq (named e) (named s)) before) refl
    where
      by_test : (b : Bool) → (barred (named s) || list_any (λ e. nat_eq (named e) (named s)) before) ≡ b
          → ((barred (named s) || list_any (λ e. nat_eq (named e) (named s)) before) ≡ false) × (first_barred named barred (before ++ s ∷ []) swaps ≡ None)
      by_test true e = let f : Some (named s) ≡ None = rw e at found in cc
      by_test false e = (e, rw e at found)

  -- whoever stands in front of the swaps is not named by them
  not_named : (p : ℕ) (before swaps : List Swap) → ((q : ℕ) → list_any (λ e. nat_eq (named e) q) before ≡ false → p ≢ q)
      → first_barred named barred before swaps ≡ None → NotNamed named p swaps
  not_named p before [] there found = tt
  not_named p before (s ∷ swaps) there found =
      let step = step_of before s swaps found in (
        there (named s) (or_right (barred (named s)) _ step.0),
        not_named p (before ++ s ∷ []) swaps (λ q h. there q (or_left (list_any (λ e. nat_eq (named e) q) before) _ (sym (list_any-append (λ e. nat_eq (named e) q) before (s ∷ [])) ∙ h))) step.1,
      )

  -- a search that found nobody tells that all are different and not barred
  pub distinct_from_none : (before swaps : List Swap) → first_barred named barred before swaps ≡ None → Distinct named barred swaps
  distinct_from_none before [] found = tt
  distinct_from_none before (s ∷ swaps) found =
      let step = step_of before s swaps found in (
        or_left (barred (named s)) _ step.0,
        not_named (named s) (before ++ s ∷ []) swaps (last before) step.1,
        distinct_from_none (before ++ s ∷ []) swaps step.1,
      )
    where
      last : (before : List Swap) (q : ℕ) → list_any (λ e. nat_eq (named e) q) (before ++ s ∷ []) ≡ false → named s ≢ q
      last before q h same =
          let here : (nat_eq (named s) q || false) ≡ false = or_right (list_any (λ e. nat_eq (named e) q) before) _ (sym (list_any-append (λ e. nat_eq (named e) q) before (s ∷ [])) ∙ h) in
          let yes : nat_eq (named s) q ≡ true = eq_true (named s) q same in
          let clash : true ≡ false = sym yes ∙ or_left (nat_eq (named s) q) false here in
          cc

-- names that one test does not bar are not barred by another that bars one name more at most, which they do not have
carry : (named : Swap → ℕ) (barred barred' : ℕ → Bool) (p : ℕ) (swaps : List Swap) → ((q : ℕ) → p ≢ q → barred q ≡ false → barred' q ≡ false)
    → NotNamed named p swaps → Distinct named barred swaps → Distinct named barred' swaps
carry named barred barred' p [] keep fresh d = tt
carry named barred barred' p (s ∷ swaps) keep fresh d = (keep (named s) fresh.0 d.0, d.1, carry named barred barred' p swaps keep fresh.1 d.2)

or_true : (a : Bool) → (a || true) ≡ true
or_true true = refl
or_true false = refl

or_keeps : (a b b' : Bool) → (b ≡ true → b' ≡ true) → (a || b) ≡ true → (a || b') ≡ true
or_keeps true b b' f h = refl
or_keeps false b b' f h = f h

not_false : (b : Bool) → not b ≡ false → b ≡ true
not_false true h = refl
not_false false h = cc

-- who is in the team and does not go stays
stays : (s : Sale) (picks : List Pick) (q : ℕ) → s.out ≢ q → is_held picks q ≡ true → is_held (map (place_given s) picks) q ≡ true
stays s [] q n h = cc
stays s (k ∷ ks) q n h = ⊎_elim
    (λ (e : k.player ≡ s.out).
    let t : nat_eq k.player s.out ≡ true = eq_true k.player s.out e in
    let f : nat_eq k.player q ≡ false = eq_false k.player q (λ same. n (sym e ∙ same)) in
    let more : is_held (map (place_given s) ks) q ≡ true = stays s ks q n (rw f at h) in
    rw (t, more) (or_true (nat_eq s.into q)))
    (λ (m : k.player ≢ s.out).
    let t : nat_eq k.player s.out ≡ false = eq_false k.player s.out m in
    rw t (or_keeps (nat_eq k.player q) (is_held ks q) (is_held (map (place_given s) ks) q) (stays s ks q n) h))
    (cases_eq k.player s.out)

-- who is not in the team and does not come stays away
stays_away : (s : Sale) (picks : List Pick) (q : ℕ) → s.into ≢ q → is_held picks q ≡ false → is_held (map (place_given s) picks) q ≡ false
stays_away s [] q n h = refl
stays_away s (k ∷ ks) q n h =
    let more : is_held (map (place_given s) ks) q ≡ false = stays_away s ks q n (or_right (nat_eq k.player q) (is_held ks q) h) in
    ⊎_elim
    (λ (e : k.player ≡ s.out).
    let t : nat_eq k.player s.out ≡ true = eq_true k.player s.out e in
    let f : nat_eq s.into q ≡ false = eq_false s.into q n in
    rw (t, f) more)
    (λ (m : k.player ≢ s.out).
    let t : nat_eq k.player s.out ≡ false = eq_false k.player s.out m in
    let f : nat_eq k.player q ≡ false = or_left (nat_eq k.player q) (is_held ks q) h in
    rw (t, f) more)
    (cases_eq k.player s.out)

-- a slot after a sale and the later ones is the slot after all
slot_step : (s : Sale) (sales : List Sale) (k : Pick) → find (λ r. nat_eq r.out s.into) sales ≡ None → pick_after sales (place_given s k) ≡ pick_after (s ∷ sales) k
slot_step s sales k none = ⊎_elim
    (λ (e : k.player ≡ s.out).
    let t : nat_eq k.player s.out ≡ true = eq_true k.player s.out e in
    let u : nat_eq s.out k.player ≡ true = eq_true s.out k.player (sym e) in
    rw (t, u, none) refl)
    (λ (m : k.player ≢ s.out).
    let t : nat_eq k.player s.out ≡ false = eq_false k.player s.out m in
    let u : nat_eq s.out k.player ≡ false = eq_false s.out k.player (λ same. m (sym same)) in
    rw (t, u) refl)
    (cases_eq k.player s.out)

slots_step : (s : Sale) (sales : List Sale) (picks : List Pick) → find (λ r. nat_eq r.out s.into) sales ≡ None → picks_after sales (map (place_given s) picks) ≡ picks_after (s ∷ sales) picks
slots_step s sales [] none = refl
slots_step s sales (k ∷ ks) none =
    let here : pick_after sales (place_given s k) ≡ pick_after (s ∷ sales) k = slot_step s sales k none in
    let more : picks_after sales (map (place_given s) ks) ≡ picks_after (s ∷ sales) ks = slots_step s sales ks none in
    ap (λ x. x ∷ picks_after sales (map (place_given s) ks)) here ∙ ap (λ xs. pick_after (s ∷ sales) k ∷ xs) more

module _ (players : List Player) (picks : List Pick) where
  -- who is not in a team does not go
  none_goes : (now : List Pick) (p : ℕ) (swaps : List Swap) → is_held now p ≡ false → Distinct (λ s. s.out) (λ id. not (is_held now id)) swaps
      → find (λ r. nat_eq r.out p) (sales_of players picks swaps) ≡ None
  none_goes now p [] away d = refl
  none_goes now p (s ∷ swaps) away d =
      let more : find (λ r. nat_eq r.out p) (sales_of players picks swaps) ≡ None = none_goes now p swaps away d.2 in
      let other : s.out ≢ p = λ same. (let clash : true ≡ false = sym (not_false (is_held now s.out) d.0) ∙ ap (is_held now) same ∙ away in cc) in
      let f : nat_eq s.out p ≡ false = eq_false s.out p other in
      rw f more

  -- a batch of which all who go are in the team, all who come are not, and no two are the same, goes swap by swap
  pub one_by_one : (now : List Pick) (swaps : List Swap) → Distinct (λ s. s.out) (λ id. not (is_held now id)) swaps → Distinct (λ s. s.into) (is_held now) swaps
      → GoOneByOne (sales_of players picks swaps) now (picks_after (sales_of players picks swaps) now)
  one_by_one now [] outs intos = map-id now
  one_by_one now (s ∷ swaps) outs intos = (
    not_false (is_held now s.out) outs.0,
    intos.0,
    subst (GoOneByOne (sales_of players picks swaps) (map (place_given (sale_of players picks s)) now))
        (slots_step (sale_of players picks s) (sales_of players picks swaps) now (none_goes now s.into swaps intos.0 outs.2))
        (one_by_one (map (place_given (sale_of players picks s)) now) swaps
        (carry (λ s. s.out) (λ id. not (is_held now id)) (λ id. not (is_held (map (place_given (sale_of players picks s)) now) id)) s.out swaps
        (λ q ne h. ap not (stays (sale_of players picks s) now q ne (not_false (is_held now q) h))) outs.1 outs.2)
        (carry (λ s. s.into) (is_held now) (is_held (map (place_given (sale_of players picks s)) now)) s.into swaps
        (λ q ne h. stays_away (sale_of players picks s) now q ne h) intos.1 intos.2)),
  )

-- a player who is not in the team stands in no slot
not_in : (picks : List Pick) (p i : ℕ) (d : Pick) → is_held picks p ≡ false → i < length picks → (get_or picks i d).player ≢ p
not_in picks p i d away within same =
    let clash : true ≡ false = sym (list_any_at (λ k. nat_eq k.player p) picks i d within (eq_true (get_or picks i d).player p same)) ∙ away in cc

-- a sale that brings in one who is not there leaves all different
place_differs : (s : Sale) (one other : Pick) → one.player ≢ other.player → one.player ≢ s.into → other.player ≢ s.into → (place_given s one).player ≢ (place_given s other).player
place_differs s one other apart fresh fresh' = ⊎_elim
    (λ (e : one.player ≡ s.out). ⊎_elim
    (λ (f : other.player ≡ s.out). absurd (apart (e ∙ sym f)))
    (λ (n : other.player ≢ s.out).
    let t : nat_eq one.player s.out ≡ true = eq_true one.player s.out e in
    let u : nat_eq other.player s.out ≡ false = eq_false other.player s.out n in
    rw (t, u) (λ same. fresh' (sym same)))
    (cases_eq other.player s.out))
    (λ (m : one.player ≢ s.out).
    let t : nat_eq one.player s.out ≡ false = eq_false one.player s.out m in
    ⊎_elim
    (λ (f : other.player ≡ s.out). let u : nat_eq other.player s.out ≡ true = eq_true other.player s.out f in rw (t, u) fresh)
    (λ (n : other.player ≢ s.out). let u : nat_eq other.player s.out ≡ false = eq_false other.player s.out n in rw (t, u) apart)
    (cases_eq other.player s.out))
    (cases_eq one.player s.out)

different_step : (s : Sale) (picks : List Pick) → is_held picks s.into ≡ false → AreDifferent picks → AreDifferent (map (place_given s) picks)
different_step s picks away apart i j d lt within =
    let long : length (map (place_given s) picks) ≡ length picks = length-map picks (place_given s) in
    let j' : j < length picks = omega (arith, long) in
    let i' : i < length picks = omega arith in
    rw (get_or-map (place_given s) picks i d d i', get_or-map (place_given s) picks j d d j')
    (place_differs s (get_or picks i d) (get_or picks j d) (apart i j d lt j') (not_in picks s.into i d away i') (not_in picks s.into j d away j'))

-- swap by swap, fifteen different players stay different
pub different_after : (sales : List Sale) (old new : List Pick) → GoOneByOne sales old new → AreDifferent old → AreDifferent new
different_after [] old new same apart = rw same apart
different_after (s ∷ sales) old new go apart = different_after sales (map (place_given s) old) new go.2 (different_step s old go.1 apart)

-- each slot keeps its position
slot_position : (sales : List Sale) (k : Pick) → (pick_after sales k).position ≡ k.position
slot_position sales k = by_case (find (λ s. nat_eq s.out k.player) sales)
  where
    by_case : (o : Option Sale) → (option_map_or (place_taken k) o k).position ≡ k.position
    by_case None = refl
    by_case (Some s) = refl

pub positions_after : (sales : List Sale) (picks : List Pick) → map {A = Pick} {B = Position} (λ k. k.position) (picks_after sales picks) ≡ map {A = Pick} {B = Position} (λ k. k.position) picks
positions_after sales [] = refl
positions_after sales (k ∷ ks) =
    ap (λ (x : Position). x ∷ map {A = Pick} {B = Position} (λ k. k.position) (picks_after sales ks)) (slot_position sales k)
    ∙ ap (λ (xs : List Position). k.position ∷ xs) (positions_after sales ks)

same_position : (a b : Position) → is_same_position a b ≡ true → a ≡ b
same_position Keeper Keeper h = refl
same_position Defender Defender h = refl
same_position Midfielder Midfielder h = refl
same_position Forward Forward h = refl
same_position a b h = cc

nat_eq_same : (a b : ℕ) → nat_eq a b ≡ true → a ≡ b
nat_eq_same a b h = grind (arith, nat_tests)

-- who is found passes the test
found_passes : {A : Type 0} (test : A → Bool) (xs : List A) (x : A) → find test xs ≡ Some x → test x ≡ true
found_passes test [] x found = cc
found_passes test (y ∷ ys) x found = by_test (found_passes test ys x) (test y) refl
  where
    by_test : (find test ys ≡ Some x → test x ≡ true) → (b : Bool) → test y ≡ b → test x ≡ true
    by_test more true e = let same : y ≡ x = let f : Some y ≡ Some x = rw e at found in cc in subst (λ z. test z ≡ true) same e
    by_test more false e = more (rw e at found)

-- where nobody is found, nobody passes
none_passes : {A : Type 0} (test : A → Bool) (xs : List A) → find test xs ≡ None → All (λ x. test x ≡ false) xs
none_passes test [] none = All-nil (λ x. test x ≡ false)
none_passes test (y ∷ ys) none = by_test (none_passes test ys) (test y) refl
  where
    by_test : (find test ys ≡ None → All (λ x. test x ≡ false) ys) → (b : Bool) → test y ≡ b → All (λ x. test x ≡ false) (y ∷ ys)
    by_test more true e = let f : Some y ≡ None = rw e at none in cc
    by_test more false e = All-cons (λ x. test x ≡ false) y ys e (more (rw e at none))

-- one who is there is found
any_found : {A : Type 0} (test : A → Bool) (xs : List A) → list_any test xs ≡ true → find test xs ≡ None → ⊥
any_found test [] any none = cc
any_found test (y ∷ ys) any none = by_test (any_found test ys) (test y) refl
  where
    by_test : (list_any test ys ≡ true → find test ys ≡ None → ⊥) → (b : Bool) → test y ≡ b → ⊥
    by_test more true e = let f : Some y ≡ None = rw e at none in cc
    by_test more false e = more (rw e at any) (rw e at none)

module _ (position : ℕ → Position) (players : List Player) (have : HavePositions position players) (picks : List Pick) (placed : ArePlaced position picks) where
  -- an incomer who plays at the position of the one who goes has his position
  incomer_position : (s : Swap) (k : Pick) → pick_of picks s.out ≡ Some k → not (plays_at players k.position s.into) ≡ false → position s.into ≡ position s.out
  incomer_position s k found plays = by_player (player_of players s.into) refl
    where
      by_player : (o : Option Player) → player_of players s.into ≡ o → position s.into ≡ position s.out
      by_player None e = let f : true ≡ false = rw e at plays in cc
      by_player (Some p) e =
          let f : not (is_same_position p.position k.position) ≡ false = rw e at plays in
          let same : p.position ≡ k.position = same_position p.position k.position (not_false _ f) in
          let id : p.id ≡ s.into = nat_eq_same p.id s.into (found_passes (λ q. nat_eq q.id s.into) players p e) in
          let his : p.position ≡ position p.id = found_has (λ (q : Player). q.position ≡ position q.id) (λ q. nat_eq q.id s.into) players p have e in
          let goes : k.player ≡ s.out = nat_eq_same k.player s.out (found_passes (λ q. nat_eq q.player s.out) picks k found) in
          let its : k.position ≡ position k.player = found_has (λ (q : Pick). q.position ≡ position q.player) (λ q. nat_eq q.player s.out) picks k placed found in
          ap position (sym id) ∙ sym his ∙ same ∙ its ∙ ap position goes

  swap_position : (s : Swap) → is_held picks s.out ≡ true → moves_position players picks s ≡ false → position s.into ≡ position s.out
  swap_position s held stays' = by_pick (pick_of picks s.out) refl
    where
      by_pick : (o : Option Pick) → pick_of picks s.out ≡ o → position s.into ≡ position s.out
      by_pick None e = absurd (any_found (λ k. nat_eq k.player s.out) picks held e)
      by_pick (Some k) e = incomer_position s k e (rw e at stays')

  -- so in each slot the player after the batch has the position of the one before it
  player_position : (swaps : List Swap) (k : Pick) → All (λ s. moves_position players picks s ≡ false) swaps → Distinct (λ s. s.out) (λ id. not (is_held picks id)) swaps
      → position (pick_after (sales_of players picks swaps) k).player ≡ position k.player
  player_position [] k stays' outs = refl
  player_position (s ∷ swaps) k stays' outs =
      let more : position (pick_after (sales_of players picks swaps) k).player ≡ position k.player = player_position swaps k (All-tail (λ s. moves_position players picks s ≡ false) s swaps stays') outs.2 in
      let here : position s.into ≡ position s.out = swap_position s (not_false (is_held picks s.out) outs.0) (All-head (λ s. moves_position players picks s ≡ false) s swaps stays') in
      ⊎_elim
      (λ (e : s.out ≡ k.player). let t : nat_eq s.out k.player ≡ true = eq_true s.out k.player e in rw t (here ∙ ap position e))
      (λ (n : s.out ≢ k.player). let t : nat_eq s.out k.player ≡ false = eq_false s.out k.player n in rw t more)
      (cases_eq s.out k.player)

  pub placed_after : (swaps : List Swap) → first_moved players picks swaps ≡ None → Distinct (λ s. s.out) (λ id. not (is_held picks id)) swaps → ArePlaced position (picks_after (sales_of players picks swaps) picks)
  placed_after swaps none outs i d within =
      let long : length (picks_after (sales_of players picks swaps) picks) ≡ length picks = length-map picks (pick_after (sales_of players picks swaps)) in
      let i' : i < length picks = omega (arith, long) in
      rw (get_or-map (pick_after (sales_of players picks swaps)) picks i d d i')
      (slot_position (sales_of players picks swaps) (get_or picks i d) ∙ placed i d i'
      ∙ sym (player_position swaps (get_or picks i d) (none_passes (moves_position players picks) swaps (found_none (find (moves_position players picks) swaps) none)) outs))
    where
      found_none : (o : Option Swap) → option_map (λ s. s.into) o ≡ None → o ≡ None
      found_none None h = refl
      found_none (Some s) h = cc
