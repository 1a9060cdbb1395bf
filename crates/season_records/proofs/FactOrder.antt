-- The commands on the facts keep them in order.
use Rattle.std.proofs.Common.{◌≡◌, ◌<◌, ◌==◌, ◌&&◌, ℕ, Bool, true, false, cond, List, [], ◌∷◌, ◌++◌, Option, Some, None, AllPairs, find, filter, fold, map, nat_lt, arith, refl, sym, ap, subst, ◌∙◌, inl, inr, if◌then◌else◌}
use Rattle.std.specs.Prelude.{is_some}
use Rattle.std.proofs.lemmas.Bool.{cases_eq, false≢true}
use Rattle.std.proofs.lemmas.Bool.Decides.{nat_tests}
use Rattle.std.proofs.lemmas.Option.{none-some, same_Some}
use Rattle.fpl_base.specs.declared.kinds.Position.{Position}
use Rattle.fpl_base.specs.declared.kinds.Profile.{Profile}
use Rattle.rule_book.specs.declared.line.Line.{Line}
use Rattle.rule_book.specs.declared.player.Player.{Player}
use Rattle.rule_book.specs.declared.season.Fixture.{Fixture}
use Rattle.rule_book.specs.ById.{AreSorted, at_id, placed_at}
use Rattle.rule_book.specs.Calendar.{between, moved_to}
use Rattle.rule_book.specs.MatchFacts.{Lines, MatchFacts, Sheet, by_player, has_facts, is_finished, lines_of, tells_facts, with_line, with_sheet, without_line}
use Rattle.rule_book.specs.Players.{with_change, with_details}
use Rattle.rule_book.proofs.AtId.{one_same, placed_other, placed_same, one_other}
use Rattle.season_book.specs.Book.{Facts}
use Rattle.season_book.specs.Commands.{are_there, changed_by, has_fixture, new_season}
use Rattle.season_book.specs.declared.command.Command.{Command}
use Rattle.season_book.specs.declared.command.Command.TheVariants as command
use Rattle.season_records.specs.Told.{AreInOrder}
use Rattle.season_records.proofs.Determined.{rise_of}
use Rattle.season_records.proofs.Finds.{found_beside}
use Rattle.season_records.proofs.Orders.{none_sorted, pairs_of, put_sorted, rise_map, rise_put, taken_sorted}
use Rattle.season_records.proofs.Sheets.{sheet_by}

-- Players and fixtures.

pub players_put : (players : List Player) (new : Player) → AllPairs (λ p q. p.id < q.id) players
    → AllPairs (λ p q. p.id < q.id) (filter (λ p. nat_lt p.id new.id) players ++ new ∷ filter (λ p. nat_lt new.id p.id) players)
players_put players new up =
    pairs_of (λ p. p.id) (filter (λ p. nat_lt p.id new.id) players ++ new ∷ filter (λ p. nat_lt new.id p.id) players)
    (rise_put (λ p. p.id) new.id new players refl (rise_of (λ p. p.id) players up))

players_changed : (change : Player → Player) → ((p : Player) → (change p).id ≡ p.id) → (players : List Player) (id : ℕ)
    → AllPairs (λ p q. p.id < q.id) players → AllPairs (λ p q. p.id < q.id) (with_change change players id)
players_changed change keeps players id up =
    pairs_of (λ p. p.id) (with_change change players id)
    (rise_map (λ p. p.id) (λ p. if p.id == id then change p else p) (λ p. chosen p (p.id == id)) players (rise_of (λ p. p.id) players up))
  where
    chosen : (p : Player) (b : Bool) → (if b then change p else p).id ≡ p.id
    chosen p true = keeps p
    chosen p false = refl

pub fixtures_put : (xs : List Fixture) (new : Fixture) → AllPairs (λ x y. x.id < y.id) xs
    → AllPairs (λ x y. x.id < y.id) (filter (λ y. nat_lt y.id new.id) xs ++ new ∷ filter (λ y. nat_lt new.id y.id) xs)
fixtures_put xs new up =
    pairs_of (λ x. x.id) (filter (λ y. nat_lt y.id new.id) xs ++ new ∷ filter (λ y. nat_lt new.id y.id) xs)
    (rise_put (λ x. x.id) new.id new xs refl (rise_of (λ x. x.id) xs up))

moved_id : (f : ℕ) (g : Option ℕ) (kickoff : ℕ) (x : Fixture) → (moved_to f g kickoff x).id ≡ x.id
moved_id f g kickoff x = chosen (x.id == f)
  where
    chosen : (b : Bool) → (if b then record x { gw = g; kickoff = kickoff } else x).id ≡ x.id
    chosen true = refl
    chosen false = refl

fixtures_moved : (xs : List Fixture) (f : ℕ) (g : Option ℕ) (kickoff : ℕ) → AllPairs (λ x y. x.id < y.id) xs → AllPairs (λ x y. x.id < y.id) (map (moved_to f g kickoff) xs)
fixtures_moved xs f g kickoff up =
    pairs_of (λ x. x.id) (map (moved_to f g kickoff) xs) (rise_map (λ x. x.id) (moved_to f g kickoff) (moved_id f g kickoff) xs (rise_of (λ x. x.id) xs up))

between_id : (f home away : ℕ) (x : Fixture) → (between f home away x).id ≡ x.id
between_id f home away x = chosen (x.id == f)
  where
    chosen : (b : Bool) → (if b then record x { home = home; away = away } else x).id ≡ x.id
    chosen true = refl
    chosen false = refl

fixtures_between : (xs : List Fixture) (f home away : ℕ) → AllPairs (λ x y. x.id < y.id) xs → AllPairs (λ x y. x.id < y.id) (map (between f home away) xs)
fixtures_between xs f home away up =
    pairs_of (λ x. x.id) (map (between f home away) xs) (rise_map (λ x. x.id) (between f home away) (between_id f home away) xs (rise_of (λ x. x.id) xs up))

there_between : (xs : List Fixture) (f home away q : ℕ) → is_some (find (λ x. x.id == q) (map (between f home away) xs)) ≡ is_some (find (λ x. x.id == q) xs)
there_between [] f home away q = refl
there_between (x ∷ xs) f home away q =
    let same : (between f home away x).id ≡ x.id = between_id f home away x in
    let more = there_between xs f home away q in
    grind (arith, nat_tests, same, more)

-- which fixtures are there
found_in : (front back : List Fixture) (new : Fixture) (q : ℕ) → new.id ≡ q → is_some (find (λ x. x.id == q) (front ++ new ∷ back)) ≡ true
found_in [] back new q here = grind (arith, nat_tests, here)
found_in (x ∷ front) back new q here =
    elim (x.id == q) as (λ b. is_some (cond b (Some x) (find (λ x. x.id == q) (front ++ new ∷ back))) ≡ true) [
      | true ↦ refl
      | false ↦ found_in front back new q here
    ]

there_put : (xs : List Fixture) (new : Fixture) (q : ℕ) → is_some (find (λ x. x.id == q) xs) ≡ true
    → is_some (find (λ x. x.id == q) (filter (λ y. nat_lt y.id new.id) xs ++ new ∷ filter (λ y. nat_lt new.id y.id) xs)) ≡ true
there_put xs new q there = elim (cases_eq new.id q) [
  | inl here ↦ found_in (filter (λ y. nat_lt y.id new.id) xs) (filter (λ y. nat_lt new.id y.id) xs) new q here
  | inr other ↦ ap is_some (found_beside (λ x. x.id) xs new q (grind (arith, nat_tests, other))) ∙ there
]

there_moved : (xs : List Fixture) (f : ℕ) (g : Option ℕ) (kickoff q : ℕ) → is_some (find (λ x. x.id == q) (map (moved_to f g kickoff) xs)) ≡ is_some (find (λ x. x.id == q) xs)
there_moved [] f g kickoff q = refl
there_moved (x ∷ xs) f g kickoff q =
    let same : (moved_to f g kickoff x).id ≡ x.id = moved_id f g kickoff x in
    let more = there_moved xs f g kickoff q in
    grind (arith, nat_tests, same, more)

-- Sheets.

module _ (m : MatchFacts) (f : ℕ) (sheet : Sheet) where
  pub sheets_put : AreSorted m → AreSorted (with_sheet m f sheet)
  sheets_put sorted = by (tells_facts sheet)
    where
      by : (b : Bool) → AreSorted (placed_at m f (if b then (f, sheet) ∷ [] else []))
      by true = put_sorted m f sheet sorted
      by false = taken_sorted m f sorted

  pub lines_put : ((g : ℕ) → AreSorted (lines_of m g)) → AreSorted sheet.lines → (g : ℕ) → AreSorted (lines_of (with_sheet m f sheet) g)
  lines_put each new g = sheet_by (λ s. AreSorted s.lines) m f sheet g (λ here. new) (each g)

  pub tell_put : ((g : ℕ) (s : Sheet) → at_id m g ≡ Some s → tells_facts s ≡ true) → (g : ℕ) (s : Sheet) → at_id (with_sheet m f sheet) g ≡ Some s → tells_facts s ≡ true
  tell_put tell g s = by (tells_facts sheet) refl
    where
      by : (b : Bool) → tells_facts sheet ≡ b → at_id (placed_at m f (if b then (f, sheet) ∷ [] else [])) g ≡ Some s → tells_facts s ≡ true
      by b is at = elim (cases_eq g f) [
        | inl here ↦ at_new b is (sym (ap (at_id (placed_at m f (if b then (f, sheet) ∷ [] else []))) here ∙ placed_same m (if b then (f, sheet) ∷ [] else []) f) ∙ at)
        | inr other ↦ tell g s (sym (placed_other m (if b then (f, sheet) ∷ [] else []) f g other (at_other b other)) ∙ at)
      ]
        where
          at_new : (b : Bool) → tells_facts sheet ≡ b → at_id (if b then (f, sheet) ∷ [] else []) f ≡ Some s → tells_facts s ≡ true
          at_new true is at = subst (λ s. tells_facts s ≡ true) (same_Some sheet s (sym (one_same f sheet) ∙ at)) is
          at_new false is at = absurd (none-some s at)

          at_other : (b : Bool) → (g ≡ f → ⊥) → at_id (if b then (f, sheet) ∷ [] else []) g ≡ None
          at_other true other = one_other f g sheet other
          at_other false other = refl

  pub there_put_sheet : (has : ℕ → Bool) → ((g : ℕ) → has_facts m g ≡ true → has g ≡ true) → has f ≡ true → (g : ℕ) → has_facts (with_sheet m f sheet) g ≡ true → has g ≡ true
  there_put_sheet has each here g = sheet_by (λ s. tells_facts s ≡ true → has g ≡ true) m f sheet g (λ same told. ap has same ∙ here) (each g)

  -- facts whose fixture is there
  sheet_in_order : (facts : Facts) → facts.matches ≡ m → AreInOrder facts → has_fixture facts f ≡ true → AreSorted sheet.lines → AreInOrder (record facts { matches = with_sheet m f sheet })
  sheet_in_order facts is order here new =
      let sorted : AreSorted m = subst AreSorted is order.sheets in
      let lines : (g : ℕ) → AreSorted (lines_of m g) = subst (λ m. (g : ℕ) → AreSorted (lines_of m g)) is order.lines in
      let tell : (g : ℕ) (s : Sheet) → at_id m g ≡ Some s → tells_facts s ≡ true = subst (λ m. (g : ℕ) (s : Sheet) → at_id m g ≡ Some s → tells_facts s ≡ true) is order.tell in
      let there : (g : ℕ) → has_facts m g ≡ true → has_fixture facts g ≡ true = subst (λ m. (g : ℕ) → has_facts m g ≡ true → has_fixture facts g ≡ true) is order.there in
      record {
        clubs = order.clubs;
        players = order.players;
        fixtures = order.fixtures;
        sheets = sheets_put sorted;
        lines = lines_put lines new;
        tell = tell_put tell;
        there = there_put_sheet (has_fixture facts) there here;
      }

-- lines handed in, in their order
by_player_sorted : (lines so_far : Lines) → AreSorted so_far → AreSorted (fold (λ so_far row. with_line so_far row.0 row.1) so_far lines)
by_player_sorted [] so_far sorted = sorted
by_player_sorted (row ∷ lines) so_far sorted = by_player_sorted lines (with_line so_far row.0 row.1) (put_sorted so_far row.0 row.1 sorted)

-- What is there.

first_there : (a b : Bool) → (a && b) ≡ true → a ≡ true
first_there true b both = refl
first_there false b both = absurd (false≢true both)

-- Each command.

with_players : (facts : Facts) (players : List Player) → AreInOrder facts → AllPairs (λ p q. p.id < q.id) players → AreInOrder (record facts { players = players })
with_players facts players order up = record {
  clubs = order.clubs;
  players = up;
  fixtures = order.fixtures;
  sheets = order.sheets;
  lines = order.lines;
  tell = order.tell;
  there = order.there;
}

with_fixtures : (facts : Facts) (xs : List Fixture) → AreInOrder facts → AllPairs (λ x y. x.id < y.id) xs
    → ((f : ℕ) → has_fixture facts f ≡ true → is_some (find (λ x. x.id == f) xs) ≡ true)
    → AreInOrder (record facts { calendar = record facts.calendar { fixtures = xs } })
with_fixtures facts xs order up still = record {
  clubs = order.clubs;
  players = order.players;
  fixtures = up;
  sheets = order.sheets;
  lines = order.lines;
  tell = order.tell;
  there = λ f has. still f (order.there f has);
}

pub amended_in_order : (facts : Facts) (p : ℕ) (name : List ℕ) (position : Position) → AreInOrder facts → AreInOrder (record facts { players = with_details facts.players p name position })
amended_in_order facts p name position order =
    with_players facts _ order (players_changed (λ p. record p { name = name; position = position }) (λ p. refl) facts.players p order.players)

pub changes_in_order : (facts : Facts) (command : Command) → AreInOrder facts → are_there facts command ≡ true → AreInOrder (changed_by facts command)
changes_in_order facts (command.Deadline g t) order there = record {
  clubs = order.clubs;
  players = order.players;
  fixtures = order.fixtures;
  sheets = order.sheets;
  lines = order.lines;
  tell = order.tell;
  there = order.there;
}
changes_in_order facts (command.Player id name position club price) order there =
    let new : Player = record { id = id; name = name; position = position; club = club; price = price; gone = false } in
    with_players facts _ order (players_put facts.players new order.players)
changes_in_order facts (command.Price p price) order there =
    with_players facts _ order (players_changed (λ p. record p { price = price }) (λ p. refl) facts.players p order.players)
changes_in_order facts (command.Club p club) order there =
    with_players facts _ order (players_changed (λ p. record p { club = club }) (λ p. refl) facts.players p order.players)
changes_in_order facts (command.Gone p gone) order there =
    with_players facts _ order (players_changed (λ p. record p { gone = gone }) (λ p. refl) facts.players p order.players)
changes_in_order facts (command.Fixture id home away g kickoff) order there =
    let new : Fixture = record { id = id; home = home; away = away; gw = g; kickoff = kickoff } in
    with_fixtures facts _ order (fixtures_put facts.calendar.fixtures new order.fixtures) (there_put facts.calendar.fixtures new)
changes_in_order facts (command.Move f g kickoff) order there =
    with_fixtures facts _ order (fixtures_moved facts.calendar.fixtures f g kickoff order.fixtures)
    (λ q has. there_moved facts.calendar.fixtures f g kickoff q ∙ has)
changes_in_order facts (command.AmendFixture f home away) order there =
    with_fixtures facts _ order (fixtures_between facts.calendar.fixtures f home away order.fixtures)
    (λ q has. there_between facts.calendar.fixtures f home away q ∙ has)
changes_in_order facts (command.Sheet f lines finished) order there =
    sheet_in_order facts.matches f (record { lines = by_player lines; finished = finished }) facts refl order
    (first_there (has_fixture facts f) _ there) (by_player_sorted lines [] (none_sorted Line))
changes_in_order facts (command.Line f p line) order there =
    sheet_in_order facts.matches f (record { lines = with_line (lines_of facts.matches f) p line; finished = is_finished facts.matches f }) facts refl order
    (first_there (has_fixture facts f) _ there) (put_sorted (lines_of facts.matches f) p line (order.lines f))
changes_in_order facts (command.Drop f p) order there =
    sheet_in_order facts.matches f (record { lines = without_line (lines_of facts.matches f) p; finished = is_finished facts.matches f }) facts refl order
    (first_there (has_fixture facts f) _ there) (taken_sorted (lines_of facts.matches f) p (order.lines f))
changes_in_order facts (command.Finished f finished) order there =
    sheet_in_order facts.matches f (record { lines = lines_of facts.matches f; finished = finished }) facts refl order there (order.lines f)
changes_in_order facts command order there = order

-- A new season.

clubs_in_order : (clubs so_far : List (ℕ × List ℕ)) → AreSorted so_far → AreSorted (fold (λ so_far club. placed_at so_far club.0 (club ∷ [])) so_far clubs)
clubs_in_order [] so_far sorted = sorted
clubs_in_order (club ∷ clubs) so_far sorted = clubs_in_order clubs (placed_at so_far club.0 (club ∷ [])) (put_sorted so_far club.0 club.1 sorted)

pub season_in_order : (profile : Profile) (deadlines : List ℕ) (split : ℕ) (clubs : List (ℕ × List ℕ)) → AreInOrder (new_season profile deadlines split clubs)
season_in_order profile deadlines split clubs = record {
  clubs = clubs_in_order clubs [] (none_sorted (List ℕ));
  players = pairs_of (λ p. p.id) [] tt;
  fixtures = pairs_of (λ x. x.id) [] tt;
  sheets = none_sorted Sheet;
  lines = λ f. none_sorted Line;
  tell = λ f sheet at. absurd (none-some sheet at);
  there = λ f has. absurd (false≢true has);
}
