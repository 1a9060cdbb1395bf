-- What a change of the calendar and of the players leaves.
use Rattle.std.proofs.Common.{◌≡◌, ◌≢◌, ℕ, ◌<◌, ◌≤◌, ◌==◌, nat_lt, max, Bool, true, false, cond, if◌then◌else◌, inl, inr, ⊎_elim, List, [], ◌∷◌, ◌++◌, Option, Some, None, is_some, map, refl, sym, ◌∙◌, ap, ap₂, subst, arith}
use Rattle.std.specs.List.{filter, find}
use Rattle.std.specs.Option.{option_and_then, option_map, option_map_or, option_or}
use Rattle.std.proofs.lemmas.Bool.{cases_order}
use Rattle.std.proofs.lemmas.Bool.Decides.{nat_tests}
use Rattle.std.proofs.lemmas.List.Folds.{find-append}
use Rattle.rule_book.specs.declared.player.Player.{Player}
use Rattle.rule_book.specs.declared.season.Fixture.{Fixture}
use Rattle.rule_book.specs.Calendar.{between, is_gameweek, moved_to, passed_deadlines, standing_among}
use Rattle.fpl_base.specs.declared.kinds.Position.{Position}
use Rattle.fpl_base.specs.declared.kinds.Position.TheVariants.{Keeper}
use Rattle.rule_book.specs.MatchFacts.{line_of}
use Rattle.rule_book.specs.PlayerFigures.{position_in}
use Rattle.rule_book.specs.Players.{player_of, with_change, with_details, with_player}
use Rattle.rule_book.proofs.DetailsFacts.{amended, found_other, found_own, still_there}
use Rattle.season_graph.specs.BookChanges.{ClubChanges, DeadlineMoves, FixtureComes, FixtureMoves, GoneChanges, ManagersChange, MomentPasses, OpponentsChange, PlayerComes, PositionChanges, PriceChanges, with_players}
use Rattle.season_graph.specs.Changes.{AreAlike}
use Rattle.season_nodes.specs.Season.{SeasonFacts, IsSeason, has_line}
use Rattle.season_nodes.proofs.DependentFacts.{same_test}
use Rattle.season_graph.proofs.ChangedFacts.{same_or_not}

clash : true ≡ false → ⊥
clash e = cc

or_none : {X : Type 0} (o : Option X) → option_or o None ≡ o
or_none None = refl
or_none (Some x) = refl

none_or : {X : Type 0} (o : Option X) → option_or None o ≡ o
none_or o = refl

module _ {X : Type 0} (t u : X → Bool) where
  kept_case : (x : X) (ys : List X) (rest : Option X) (a c : Bool) → t x ≡ a → (a ≡ true → c ≡ true) → find t ys ≡ rest → find t (cond c (x ∷ ys) ys) ≡ cond a (Some x) rest
  kept_case x ys rest a true e h r = ap₂ (λ p o. cond p (Some x) o) e r
  kept_case x ys rest true false e h r = absurd (clash (sym (h refl)))
  kept_case x ys rest false false e h r = r

  -- what a filter keeps is found as before
  find_kept : (xs : List X) → ((x : X) → t x ≡ true → u x ≡ true) → find t (filter u xs) ≡ find t xs
  find_kept [] h = refl
  find_kept (x ∷ xs) h = kept_case x (filter u xs) (find t xs) (t x) (u x) refl (h x) (find_kept xs h)

  lost_case : (x : X) (ys : List X) (a c : Bool) → t x ≡ a → (a ≡ true → c ≡ false) → find t ys ≡ None → find t (cond c (x ∷ ys) ys) ≡ None
  lost_case x ys true true e h r = absurd (clash (h refl))
  lost_case x ys false true e h r = ap₂ (λ p o. cond p (Some x) o) e r
  lost_case x ys a false e h r = r

  -- what it takes away is not
  pub find_lost : (xs : List X) → ((x : X) → t x ≡ true → u x ≡ false) → find t (filter u xs) ≡ None
  find_lost [] h = refl
  find_lost (x ∷ xs) h = lost_case x (filter u xs) (t x) (u x) refl (h x) (find_lost xs h)

is_lower : (n q k : ℕ) → q < k → (n == q) ≡ true → nat_lt n k ≡ true
is_lower n q k low e = grind (arith, nat_tests, e)

is_no_lower : (n q k : ℕ) → k < q → (n == q) ≡ true → nat_lt n k ≡ false
is_no_lower n q k low e = grind (arith, nat_tests, e)

is_higher : (n q k : ℕ) → k < q → (n == q) ≡ true → nat_lt k n ≡ true
is_higher n q k high e = grind (arith, nat_tests, e)

is_no_higher : (n q k : ℕ) → q < k → (n == q) ≡ true → nat_lt k n ≡ false
is_no_higher n q k high e = grind (arith, nat_tests, e)

is_other_id : (k q : ℕ) → q ≢ k → (k == q) ≡ false
is_other_id k q n = case (k == q) refl
  where
    case : (b : Bool) → (k == q) ≡ b → b ≡ false
    case true e = absurd (n (grind (arith, nat_tests, e)))
    case false e = refl

module _ {X : Type 0} (id_of : X → ℕ) where
  -- a new one at its place by id hides no other
  found_placed : (xs : List X) (x : X) (q : ℕ) → q ≢ id_of x
      → find (λ y. id_of y == q) (filter (λ y. nat_lt (id_of y) (id_of x)) xs ++ x ∷ filter (λ y. nat_lt (id_of x) (id_of y)) xs) ≡ find (λ y. id_of y == q) xs
  found_placed xs x q n =
      let t : X → Bool = λ y. id_of y == q in
      let low : X → Bool = λ y. nat_lt (id_of y) (id_of x) in
      let high : X → Bool = λ y. nat_lt (id_of x) (id_of y) in
      let skipped : find t (x ∷ filter high xs) ≡ find t (filter high xs) = ap (λ p. cond p (Some x) (find t (filter high xs))) (is_other_id (id_of x) q n) in
      find-append t (filter low xs) (x ∷ filter high xs)
      ∙ ap (option_or (find t (filter low xs))) skipped
      ∙ elim (cases_order q (id_of x)) [
        | inl same ↦ absurd (n same)
        | inr (inl lt) ↦
            ap₂ option_or (find_kept t low xs (λ y e. is_lower (id_of y) q (id_of x) lt e)) (find_lost t high xs (λ y e. is_no_higher (id_of y) q (id_of x) lt e))
            ∙ or_none (find t xs)
        | inr (inr gt) ↦
            ap₂ option_or (find_lost t low xs (λ y e. is_no_lower (id_of y) q (id_of x) gt e)) (find_kept t high xs (λ y e. is_higher (id_of y) q (id_of x) gt e))
            ∙ none_or (find t xs)
      ]

itself_found : {X : Type 0} (o : Option X) (x : X) (rest : Option X) (t : Bool) → t ≡ true → is_some (option_or o (cond t (Some x) rest)) ≡ true
itself_found None x rest true e = refl
itself_found (Some y) x rest true e = refl
itself_found o x rest false e = absurd (clash (sym e))

-- and is found itself
is_placed : {X : Type 0} (id_of : X → ℕ) (xs : List X) (x : X)
    → is_some (find (λ y. id_of y == id_of x) (filter (λ y. nat_lt (id_of y) (id_of x)) xs ++ x ∷ filter (λ y. nat_lt (id_of x) (id_of y)) xs)) ≡ true
is_placed id_of xs x =
    let low = filter (λ y. nat_lt (id_of y) (id_of x)) xs in
    let high = filter (λ y. nat_lt (id_of x) (id_of y)) xs in
    ap is_some (find-append (λ y. id_of y == id_of x) low (x ∷ high))
    ∙ itself_found (find (λ y. id_of y == id_of x) low) x (find (λ y. id_of y == id_of x) high) (id_of x == id_of x) (same_test (id_of x) (id_of x) refl)

moved_case : (f k : ℕ) (to : Option ℕ) (kickoff : ℕ) (x : Fixture) (r s : Option Fixture) (b : Bool) → k ≢ f → (x.id == f) ≡ b → r ≡ s
    → cond ((if b then record x { gw = to; kickoff = kickoff } else x).id == k) (Some (if b then record x { gw = to; kickoff = kickoff } else x)) r ≡ cond (x.id == k) (Some x) s
moved_case f k to kickoff x r s true n e i =
    let skip : (x.id == k) ≡ false = is_other_id x.id k (λ j. n (j ∙ same_number x.id f e)) in
    ap (λ p. cond p (Some (record x { gw = to; kickoff = kickoff })) r) skip ∙ i ∙ sym (ap (λ p. cond p (Some x) s) skip)
  where
    same_number : (m n : ℕ) → (m == n) ≡ true → m ≡ n
    same_number m n e = grind (arith, nat_tests)
moved_case f k to kickoff x r s false n e i = ap (cond (x.id == k) (Some x)) i

-- a fixture that moves moves no other
found_moved : (xs : List Fixture) (f k : ℕ) (to : Option ℕ) (kickoff : ℕ) → k ≢ f → find (λ x. x.id == k) (map (moved_to f to kickoff) xs) ≡ find (λ x. x.id == k) xs
found_moved [] f k to kickoff n = refl
found_moved (x ∷ xs) f k to kickoff n = moved_case f k to kickoff x (find (λ x. x.id == k) (map (moved_to f to kickoff) xs)) (find (λ x. x.id == k) xs) (x.id == f) n refl (found_moved xs f k to kickoff n)

-- a moved fixture, a new one, a passed moment and a moved deadline leave a season
pub fixture_moves : FixtureMoves
fixture_moves b f to kickoff is lawful = (
  record { calendar = lawful; ascending = is.ascending; ranges = is.ranges; there = is.there; orders = is.orders; brackets = is.brackets },
  record { profile = refl; locked = refl; players = refl; matches = refl; others = λ k n. ap (option_and_then (λ x. x.gw)) (sym (found_moved b.calendar.fixtures f k to kickoff n)); leagues = refl; cups = refl; entries = record { begun = λ e g w. refl; team = λ e g l. refl; cost = λ e g l. refl } },
)

pub fixture_comes : FixtureComes
fixture_comes b x is lawful = (
  record { calendar = lawful; ascending = is.ascending; ranges = is.ranges; there = is.there; orders = is.orders; brackets = is.brackets },
  record { profile = refl; locked = refl; players = refl; matches = refl; others = λ k n. ap (option_and_then (λ y. y.gw)) (sym (found_placed (λ y. y.id) b.calendar.fixtures x k n)); leagues = refl; cups = refl; entries = record { begun = λ e g w. refl; team = λ e g l. refl; cost = λ e g l. refl } },
)

not_less : (n m : ℕ) → n ≤ max n m
not_less n m = omega arith

pub moment_passes : MomentPasses
moment_passes b now is lawful = (
  record { calendar = lawful; ascending = is.ascending; ranges = is.ranges; there = is.there; orders = is.orders; brackets = is.brackets },
  record { profile = refl; players = refl; matches = refl; fixtures = refl; before = refl; rises = not_less b.calendar.locked (passed_deadlines b.calendar.deadlines now); leagues = refl; cups = refl; entries = record { begun = λ e g w. refl; team = λ e g l. refl; cost = λ e g l. refl } },
)

pub deadline_moves : DeadlineMoves
deadline_moves b g t is lawful = (
  record { calendar = lawful; ascending = is.ascending; ranges = is.ranges; there = is.there; orders = is.orders; brackets = is.brackets },
  record { profile = refl; locked = refl; stand = λ g. refl; lines = λ f q. refl; marks = λ f. refl; there = λ q. refl; positions = λ f q h. refl; leagues = refl; cups = λ k. inl refl; entries = record { begun = λ e g w. refl; team = λ e g l. refl; cost = λ e g l. refl } },
)

-- so does a fixture between other clubs

standing_still : (xs : List Fixture) (f home away g : ℕ) → standing_among (map (between f home away) xs) g ≡ standing_among xs g
standing_still [] f home away g = refl
standing_still (x ∷ xs) f home away g = by_id (x.id == f) (is_gameweek g x.gw) (standing_still xs f home away g)
  where
    news : List Fixture
    news = filter (λ y. is_gameweek g y.gw) (map (between f home away) xs)

    olds : List Fixture
    olds = filter (λ y. is_gameweek g y.gw) xs

    by_id : (b t : Bool) → map (λ y. y.id) news ≡ map (λ y. y.id) olds
        → map (λ y. y.id) (cond (is_gameweek g (if b then record x { home = home; away = away } else x).gw) ((if b then record x { home = home; away = away } else x) ∷ news) news)
        ≡ map (λ y. y.id) (cond (is_gameweek g x.gw) (x ∷ olds) olds)
    by_id true t rest = here (is_gameweek g x.gw) rest
      where
        here : (t : Bool) → map (λ y. y.id) news ≡ map (λ y. y.id) olds
            → map (λ y. y.id) (cond t (record x { home = home; away = away } ∷ news) news) ≡ map (λ y. y.id) (cond t (x ∷ olds) olds)
        here true rest = ap (λ l. x.id ∷ l) rest
        here false rest = rest
    by_id false t rest = here (is_gameweek g x.gw) rest
      where
        here : (t : Bool) → map (λ y. y.id) news ≡ map (λ y. y.id) olds → map (λ y. y.id) (cond t (x ∷ news) news) ≡ map (λ y. y.id) (cond t (x ∷ olds) olds)
        here true rest = ap (λ l. x.id ∷ l) rest
        here false rest = rest

pub opponents_change : OpponentsChange
opponents_change b f home away is lawful = (
  record { calendar = lawful; ascending = is.ascending; ranges = is.ranges; there = is.there; orders = is.orders; brackets = is.brackets },
  record { profile = refl; locked = refl; stand = λ g. sym (standing_still b.calendar.fixtures f home away g); lines = λ f q. refl; marks = λ f. refl; there = λ q. refl; positions = λ f q h. refl; leagues = refl; cups = λ k. inl refl; entries = record { begun = λ e g w. refl; team = λ e g l. refl; cost = λ e g l. refl } },
)

-- so does a new player
pub player_comes : PlayerComes
player_comes b x is new =
    let others : (q : ℕ) → q ≢ x.id → player_of b.players q ≡ player_of (with_player b.players x) q = λ q n. sym (found_placed (λ y. y.id) b.players x q n) in (
      record {
        calendar = is.calendar;
        ascending = is.ascending;
        ranges = is.ranges;
        there = λ f p h. ⊎_elim
            (λ e. absurd (clash (sym (is.there f x.id (subst (λ q. has_line b q f ≡ true) e h)) ∙ new)))
            (λ n. ap is_some (sym (others p n)) ∙ is.there f p h)
            (same_or_not p x.id);
        orders = is.orders;
        brackets = is.brackets;
      },
      record { profile = refl; calendar = refl; matches = refl; absent = new; there = is_placed (λ y. y.id) b.players x; others = others; leagues = refl; cups = refl; entries = record { begun = λ e g w. refl; team = λ e g l. refl; cost = λ e g l. refl } },
    )

abbrev place : Option Player → Option Position
place o = option_map (λ x. x.position) o

-- and a player who changes in nothing that a node hangs on
module _ (change : Player → Player) (same_id : (x : Player) → (change x).id ≡ x.id) (same_position : (x : Player) → (change x).position ≡ x.position) where
  as_it_was : (x : Player) (q : ℕ) (r s : Option Player) (t u : Bool) → t ≡ u → place r ≡ place s → place (cond t (Some (change x)) r) ≡ place (cond u (Some x) s)
  as_it_was x q r s true true e i = ap Some (same_position x)
  as_it_was x q r s true false e i = absurd (clash e)
  as_it_was x q r s false true e i = absurd (clash (sym e))
  as_it_was x q r s false false e i = i

  itself : (x : Player) (r s : Option Player) (t : Bool) → place r ≡ place s → place (cond t (Some x) r) ≡ place (cond t (Some x) s)
  itself x r s true i = refl
  itself x r s false i = i

  change_case : (x : Player) (q : ℕ) (r s : Option Player) (b : Bool) → place r ≡ place s
      → place (cond ((if b then change x else x).id == q) (Some (if b then change x else x)) r) ≡ place (cond (x.id == q) (Some x) s)
  change_case x q r s true i = as_it_was x q r s ((change x).id == q) (x.id == q) (ap (λ n. n == q) (same_id x)) i
  change_case x q r s false i = itself x r s (x.id == q) i

  places_stay : (xs : List Player) (p q : ℕ) → place (player_of (with_change change xs p) q) ≡ place (player_of xs q)
  places_stay [] p q = refl
  places_stay (x ∷ xs) p q = change_case x q (player_of (with_change change xs p) q) (player_of xs q) (x.id == p) (places_stay xs p q)

  there_still : (o r : Option Player) → place o ≡ place r → is_some o ≡ is_some r
  there_still o r e = sym (some_place o) ∙ ap is_some e ∙ some_place r
    where
      some_place : (k : Option Player) → is_some (place k) ≡ is_some k
      some_place None = refl
      some_place (Some x) = refl

  pub player_changes : (b : SeasonFacts) (p : ℕ) → IsSeason b → let d = with_players b (with_change change b.players p) in IsSeason d × AreAlike b d
  player_changes b p is = (
    record {
      calendar = is.calendar;
      ascending = is.ascending;
      ranges = is.ranges;
      there = λ f q h. there_still (player_of (with_change change b.players p) q) (player_of b.players q) (places_stay b.players p q) ∙ is.there f q h;
      orders = is.orders;
      brackets = is.brackets;
    },
    record { profile = refl; locked = refl; stand = λ g. refl; lines = λ f q. refl; marks = λ f. refl; there = λ q. sym (there_still (player_of (with_change change b.players p) q) (player_of b.players q) (places_stay b.players p q)); positions = λ f q h. sym (places_stay b.players p q); leagues = refl; cups = λ k. inl refl; entries = record { begun = λ e g w. refl; team = λ e g l. refl; cost = λ e g l. refl } },
  )

pub price_changes : PriceChanges
price_changes b p price is = player_changes (λ x. record x { price = price }) (λ x. refl) (λ x. refl) b p is

pub club_changes : ClubChanges
club_changes b p club is = player_changes (λ x. record x { club = club }) (λ x. refl) (λ x. refl) b p is

pub gone_changes : GoneChanges
gone_changes b p gone is = player_changes (λ x. record x { gone = gone }) (λ x. refl) (λ x. refl) b p is

-- so is a player who gets another name and another position, where none of his lines is at another one

module _ (p : ℕ) (name : List ℕ) (position : Position) where
  at_his_position : (o : Option Player) → is_some o ≡ true → option_map_or (λ x. x.position) o Keeper ≡ position → place o ≡ place (option_map (amended p name position) o)
  at_his_position None there same = absurd (clash (sym there))
  at_his_position (Some x) there same = ap Some same

  places_same : (b : SeasonFacts) → IsSeason b → ((f : ℕ) → is_some (line_of b.matches f p) ≡ true → position_in b.players p ≡ position)
      → (f q : ℕ) → is_some (line_of b.matches f q) ≡ true → place (player_of b.players q) ≡ place (player_of (with_details b.players p name position) q)
  places_same b is fits f q has = ⊎_elim
      (λ e. subst (λ k. place (player_of b.players k) ≡ place (player_of (with_details b.players p name position) k)) (sym e) (
      let his : is_some (line_of b.matches f p) ≡ true = subst (λ k. is_some (line_of b.matches f k) ≡ true) e has in
      at_his_position (player_of b.players p) (is.there f p his) (fits f his) ∙ ap place (sym (found_own p name position b.players))))
      (λ n. ap place (sym (found_other p name position b.players q n)))
      (same_or_not q p)

pub position_changes : PositionChanges
position_changes b p name position is fits = (
  record {
    calendar = is.calendar;
    ascending = is.ascending;
    ranges = is.ranges;
    there = λ f q h. still_there p name position b.players q ∙ is.there f q h;
    orders = is.orders;
    brackets = is.brackets;
  },
  record { profile = refl; locked = refl; stand = λ g. refl; lines = λ f q. refl; marks = λ f. refl; there = λ q. sym (still_there p name position b.players q); positions = places_same p name position b is fits; leagues = refl; cups = λ k. inl refl; entries = record { begun = λ e g w. refl; team = λ e g l. refl; cost = λ e g l. refl } },
)

-- a book of managers in which the locked gameweeks are as they were
pub managers_change : ManagersChange
managers_change b managers is stay = (
  record { calendar = is.calendar; ascending = is.ascending; ranges = is.ranges; there = is.there; orders = is.orders; brackets = is.brackets },
  record { profile = refl; locked = refl; stand = λ g. refl; lines = λ f q. refl; marks = λ f. refl; there = λ q. refl; positions = λ f q h. refl; leagues = refl; cups = λ k. inl refl; entries = stay },
)
