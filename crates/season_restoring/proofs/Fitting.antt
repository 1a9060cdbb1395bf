-- Nothing refuses what a lawful record tells, once the records before it were taken.
use Rattle.std.proofs.Common.{◌≡◌, ◌<◌, ◌≤◌, ◌-◌, ◌==◌, ◌&&◌, ◌||◌, ℕ, zero, suc, Bool, true, false, not, cond, if◌then◌else◌, List, [], ◌∷◌, filter, find, length, get_or, take, Option, Some, None, nat_le, nat_lt, slice_index, arith, refl, sym, ap, ap₂, subst, ◌∙◌}
use Rattle.std.specs.Prelude.{count_by}
use Rattle.std.specs.List.{AllByRecursion as Each, list_any}
use Rattle.std.specs.Option.{is_none, is_some, option_and_then, option_map, option_map_or, option_or}
use Rattle.std.proofs.lemmas.Bool.{leb-false, le-ltb, lt-leb, or_parts, true≢false}
use Rattle.std.proofs.lemmas.Bool.Decides.{nat_tests}
use Rattle.std.proofs.lemmas.List.{get_or_default, length-map}
use Rattle.std.proofs.Math.Seq.{take-nil}
use Rattle.std.proofs.lemmas.Option.{none-some}
use Rattle.fpl_base.specs.Keeping.{KeysRise, map_of, precedes}
use Rattle.fpl_base.specs.declared.kinds.Position.{Position}
use Rattle.fpl_base.specs.declared.records.RecordKey.{RecordKey}
use Rattle.fpl_base.specs.declared.rule.Rule.{Rule}
use Rattle.fpl_base.specs.declared.rule.Rule.TheVariants as rule
use Rattle.rule_book.specs.declared.line.Line.{Line}
use Rattle.rule_book.specs.declared.season.Fixture.{Fixture}
use Rattle.rule_book.specs.Calendar.{CalendarFacts, fixture_of, fixture_there, fixtures_full, gameweek_full, is_early, is_gameweek, kickoff_early, standing}
use Rattle.rule_book.specs.CalendarCalls.{fixture_refusal}
use Rattle.rule_book.specs.Figures.{line_range}
use Rattle.rule_book.specs.MatchCalls.{line_refusal}
use Rattle.rule_book.specs.MatchFacts.{Lines, lines_of, with_line}
use Rattle.rule_book.specs.Players.{most_players, player_of, player_refusal, price_refusal}
use Rattle.rule_book.specs.Refusals.{first_broken}
use Rattle.season_book.specs.Book.{Facts}
use Rattle.season_records.specs.ItemReading.{item_of}
use Rattle.season_records.specs.Items.{key_of_item, slot_of_item}
use Rattle.season_records.specs.Keys.{key_of}
use Rattle.season_records.specs.declared.item.Item.{Item}
use Rattle.season_records.specs.declared.item.Item.TheVariants as item
use Rattle.season_records.specs.declared.slot.Slot.TheVariants as slot
use Rattle.stored_records.specs.SeasonRules.{calendar_told, is_crowded, place_in, stands_in}
use Rattle.stored_records.specs.Stored.{Rows, between, deadlines_told, is_within}
use Rattle.store_validation.specs.Lawful.{is_in_range, rules_broken}
use Rattle.season_records.specs.Records.{told_in}
use Rattle.season_restoring.specs.Restored.{fixture_told, player_told, with_rows}
use Rattle.season_restoring.proofs.Room.{AddsOne, all_kept, at_is_fixture, count_front, counted, fixture_from, fixtures_add, fixtures_at, fixtures_at_add, fixtures_of, is_fixture, is_fixture_at, is_line_of, is_player, kept_put, line_from, below_apart, lines_add, lines_count, none_front, player_from, players_add, players_of, tells}
use Rattle.season_restoring.proofs.Rows.{IsSpelled, Rise, Row, earlier_apart, told_after}
use Rattle.season_restoring.proofs.Slots.{own_key}
use Rattle.season_restoring.proofs.Steps.{is_of_facts}

pub none_of : {A : Type 0} (o : Option A) → is_some o ≡ false → o ≡ None
none_of None e = refl
none_of (Some x) e = absurd (true≢false e)

pub none_is : {A : Type 0} (o : Option A) → is_none o ≡ true → o ≡ None
none_is None e = refl
none_is (Some x) e = absurd (true≢false (sym e))

none_mapped : {A B : Type 0} (f : A → B) (o : Option A) → option_map f o ≡ None → o ≡ None
none_mapped f None e = refl
none_mapped f (Some x) e = absurd (none-some (f x) (sym e))

filter_less : {X : Type 0} (p : X → Bool) (xs : List X) → length (filter p xs) ≤ length xs
filter_less p [] = omega arith
filter_less p (x ∷ xs) = grind (arith, nat_tests, filter_less p xs)

none_any : {X : Type 0} (p : X → Bool) (xs : List X) → find p xs ≡ None → list_any p xs ≡ false
none_any p [] none = refl
none_any p (x ∷ xs) none = by (p x) none (none_any p xs)
  where
    by : (b : Bool) → cond b (Some x) (find p xs) ≡ None → (find p xs ≡ None → list_any p xs ≡ false) → (b || list_any p xs) ≡ false
    by true none rest = absurd (none-some x (sym none))
    by false none rest = rest none

all_none : (a b c d : Option Rule) → a ≡ None → b ≡ None → c ≡ None → d ≡ None → first_broken (a ∷ b ∷ c ∷ d ∷ []) ≡ None
all_none a b c d one two three four =
    ap (λ a. first_broken (a ∷ b ∷ c ∷ d ∷ [])) one ∙ (ap (λ b. first_broken (b ∷ c ∷ d ∷ [])) two ∙ (ap (λ c. first_broken (c ∷ d ∷ [])) three ∙ ap (λ d. first_broken (d ∷ [])) four))

-- a record that tells an item which passes a test
record Passes (test : Item → Bool) (row : Row) : Type 0 where
  pub item : Item
  pub is : item_of row.0 row.1 ≡ Some item
  pub passes : test item ≡ true

passes_of : (test : Item → Bool) (row : Row) → tells test row ≡ true → Passes test row
passes_of test row holds = by (item_of row.0 row.1) refl holds
  where
    by : (o : Option Item) → item_of row.0 row.1 ≡ o → option_map_or test o false ≡ true → Passes test row
    by None is holds = absurd (true≢false (sym holds))
    by (Some i) is holds = record { item = i; is = is; passes = holds }

pub each_taken : (P : Row → Type 0) (some : Rows) (n : ℕ) → Each P some → Each P (take n some)
each_taken P [] n each = subst (Each P) (sym (take-nil n)) tt
each_taken P (row ∷ some) zero each = tt
each_taken P (row ∷ some) (suc n) each = (each.0, each_taken P some n each.1)

rise_taken : (some : Rows) (n : ℕ) → Rise some → Rise (take n some)
rise_taken [] n up = subst Rise (sym (take-nil n)) tt
rise_taken (row ∷ some) zero up = tt
rise_taken (row ∷ some) (suc n) up = (each_taken (λ r. precedes row.0 r.0 ≡ true) some n up.0, rise_taken some n up.1)

-- The kick-off hangs on the deadlines alone.
kickoff_fits : (c other : CalendarFacts) (f : ℕ) (g : Option ℕ) (kickoff : ℕ) → c.deadlines ≡ other.deadlines → is_some (kickoff_early other f g kickoff) ≡ false → kickoff_early c f g kickoff ≡ None
kickoff_fits c other f None kickoff same right = refl
kickoff_fits c other f (Some g) kickoff same right =
    ap (λ (ds : List ℕ). if is_early (slice_index ds (g - 1)) kickoff then Some (rule.KickoffEarly f) else None) same ∙ none_of (kickoff_early other f (Some g) kickoff) right

module _ (rows : Rows) (rising : KeysRise rows) (up : Rise rows) (spelled : Each IsSpelled rows) (start : Facts) (n : ℕ) (row : Row) (lt : n < length rows) (is : row ≡ get_or rows n row) where
  abbrev pub facts : Facts
  facts = with_rows start (take n rows)

  some_spelled : Each IsSpelled (take n rows)
  some_spelled = each_taken IsSpelled rows n spelled

  front : (k : ℕ) (d : Row) → k < n → precedes (get_or rows k d).0 row.0 ≡ true
  front k d low = subst (λ (r : Row). precedes (get_or rows k d).0 r.0 ≡ true) (get_or_default rows n d row lt ∙ sym is) (rising k n d low lt)

  -- a slot of which no record was taken yet
  not_there : (i : Item) → row.0 ≡ key_of_item i → is_of_facts (slot_of_item i) ≡ true → told_in start (slot_of_item i) ≡ None → told_in facts (slot_of_item i) ≡ None
  not_there i own of none =
      let absent : map_of (take n rows) (key_of_item i) ≡ None = none_front rows n (key_of_item i) (λ k d low within. earlier_apart (get_or rows k d).0 (key_of_item i) (subst (λ key. precedes (get_or rows k d).0 key ≡ true) own (front k d low))) in
      told_after (slot_of_item i) of (take n rows) start (rise_taken rows n up) some_spelled
      ∙ (ap (λ o. option_or (option_and_then (item_of (key_of_item i)) o) (told_in start (slot_of_item i))) absent ∙ none)

  within : (test : Item → Bool) (low : RecordKey) → ((i : Item) → test i ≡ true → precedes (key_of_item i) low ≡ false)
      → (k : ℕ) (d : Row) → k < n → tells test (get_or rows k d) ≡ true → is_within low row.0 (get_or rows k d).0 ≡ true
  within test low from k d first holds =
      let p = passes_of test (get_or rows k d) holds in
      let not_low : precedes (get_or rows k d).0 low ≡ false = ap (λ key. precedes key low) (own_key (get_or rows k d).0 (get_or rows k d).1 p.item p.is) ∙ from p.item p.passes in
      ap₂ (λ a b. not a && b) not_low (front k d first)

  -- as many as there are at most are not yet there
  room : (size : Facts → ℕ) (test : Item → Bool) → AddsOne size test → size start ≡ 0 → (low : RecordKey)
      → ((i : Item) → test i ≡ true → precedes (key_of_item i) low ≡ false) → (most : ℕ) → nat_le most (between rows low row.0) ≡ false → size facts < most
  room size test adds none low from most full =
      let here = counted size test adds (take n rows) start some_spelled in
      let all : count_by (tells test) (take n rows) ≤ between rows low row.0
      = count_front (tells test) (λ r. is_within low row.0 r.0) rows n (λ k d first inside. within test low from k d first) in
      omega (arith, here, none, all, leb-false most (between rows low row.0) full)

  -- so in a gameweek
  room_at : (g : ℕ) → fixtures_at g start ≡ 0
      → nat_le 20 (count_by (λ r. is_within (key_of (slot.Fixture 0)) row.0 r.0 && stands_in g r) rows) ≡ false → fixtures_at g facts < 20
  room_at g none full =
      let low : RecordKey = key_of (slot.Fixture 0) in
      let here = counted (fixtures_at g) (is_fixture_at g) (fixtures_at_add g) (take n rows) start some_spelled in
      let all = count_front (tells (is_fixture_at g)) (λ r. is_within low row.0 r.0 && stands_in g r) rows n (λ k d first inside holds.
      let p = passes_of (is_fixture_at g) (get_or rows k d) holds in
      let stands : stands_in g (get_or rows k d) ≡ true = ap (λ o. is_gameweek g (place_in o)) p.is ∙ p.passes in
      let low_at = within (is_fixture_at g) low (λ i at. fixture_from i (at_is_fixture g i at)) k d first holds in
      ap₂ (λ a b. a && b) low_at stands) in
      omega (arith, here, none, all, leb-false 20 (count_by (λ r. is_within low row.0 r.0 && stands_in g r) rows) full)

  -- A player.

  pub player_fits : (p : ℕ) (position : Position) (club price : ℕ) (gone : Bool) (name : List ℕ) → row.0 ≡ key_of (slot.Player p)
      → players_of start ≡ 0 → told_in start (slot.Player p) ≡ None
      → rules_broken rows (item.Player p position club price gone name) ≡ false
      → player_refusal facts.players (player_told p position club price gone name) ≡ None
  player_fits p position club price gone name own none no_one right =
      let i : Item = item.Player p position club price gone name in
      let full = or_parts _ _ right in
      let priced : price_refusal price ≡ None = none_of (price_refusal price) (or_parts _ _ full.0).1 in
      let absent : player_of facts.players p ≡ None = none_mapped _ (player_of facts.players p) (not_there i own refl no_one) in
      let few : length facts.players < 1200
      = subst (λ k. k < 1200) (all_kept facts.players) (room players_of is_player players_add none (key_of (slot.Player 0)) player_from 1200 (subst (λ key. nat_le 1200 (between rows (key_of (slot.Player 0)) key) ≡ false) (sym own) full.1)) in
      let small : nat_le most_players (length facts.players) ≡ false = lt-leb 1200 (length facts.players) few in
      ap (λ o. if is_some o then Some (rule.PlayerThere p) else if nat_le most_players (length facts.players) then Some rule.PlayersFull else price_refusal price) absent
      ∙ (ap (λ b. if b then Some rule.PlayersFull else price_refusal price) small ∙ priced)

  -- A fixture.

  crowd_fits : (f : ℕ) (g : Option ℕ) → row.0 ≡ key_of (slot.Fixture f) → ((g : ℕ) → fixtures_at g start ≡ 0) → is_crowded rows f g ≡ false → gameweek_full facts.calendar f g ≡ None
  crowd_fits f None own none right = refl
  crowd_fits f (Some g) own none right =
      let few = room_at g (none g) (subst (λ key. nat_le 20 (count_by (λ r. is_within (key_of (slot.Fixture 0)) key r.0 && stands_in g r) rows) ≡ false) (sym own) right) in
      let size = length-map (filter (λ x. is_gameweek g x.gw) facts.calendar.fixtures) (λ (x : Fixture). x.id) in
      let less = filter_less (λ i. not (i == f)) (standing facts.calendar g) in
      ap (λ b. if b then Some (rule.GameweekFull g) else None) (lt-leb 20 (length (filter (λ i. not (i == f)) (standing facts.calendar g))) (omega (arith, few, size, less)))

  pub fixture_fits : (f home away : ℕ) (g : Option ℕ) (kickoff : ℕ) (finished : Bool) → row.0 ≡ key_of (slot.Fixture f)
      → fixtures_of start ≡ 0 → ((g : ℕ) → fixtures_at g start ≡ 0) → told_in start (slot.Fixture f) ≡ None
      → facts.calendar.deadlines ≡ deadlines_told (map_of rows)
      → rules_broken rows (item.Fixture f home away g kickoff finished) ≡ false
      → fixture_refusal facts.calendar (fixture_told f home away g kickoff) ≡ None
  fixture_fits f home away g kickoff finished own none none_at no_one deadlines right =
      let i : Item = item.Fixture f home away g kickoff finished in
      let six = or_parts _ _ right in
      let five = or_parts _ _ six.0 in
      let four = or_parts _ _ five.0 in
      let three = or_parts _ _ four.0 in
      let absent : fixture_of facts.calendar f ≡ None = none_mapped _ (fixture_of facts.calendar f) (not_there i own refl no_one) in
      let few : length facts.calendar.fixtures < 380
      = subst (λ k. k < 380) (all_kept facts.calendar.fixtures) (room fixtures_of is_fixture fixtures_add none (key_of (slot.Fixture 0)) fixture_from 380 (subst (λ key. nat_le 380 (between rows (key_of (slot.Fixture 0)) key) ≡ false) (sym own) six.1)) in
      all_none (fixture_there facts.calendar f) (fixtures_full facts.calendar) (gameweek_full facts.calendar f g) (kickoff_early facts.calendar f g kickoff)
      (ap (λ b. if b then Some (rule.FixtureThere f) else None) (none_any (λ x. x.id == f) facts.calendar.fixtures absent))
      (ap (λ b. if b then Some rule.FixturesFull else None) (lt-leb 380 (length facts.calendar.fixtures) few))
      (crowd_fits f g own none_at four.1)
      (kickoff_fits facts.calendar (calendar_told (map_of rows)) f g kickoff deadlines three.1)

  -- A line.

  pub line_fits : (f p : ℕ) (line : Line) → row.0 ≡ key_of (slot.Line f p) → lines_count f start ≡ 0
      → is_in_range (item.Line f p line) ≡ true → rules_broken rows (item.Line f p line) ≡ false
      → line_refusal facts.matches f true p line ≡ None
  line_fits f p line own none in_range right =
      let few : lines_count f facts < 64 = room (lines_count f) (is_line_of f) (lines_add f) none (key_of (slot.Line f 0)) (line_from f) 64 (subst (λ key. nat_le 64 (between rows (key_of (slot.Line f 0)) key) ≡ false) (sym own) (or_parts _ _ right).1) in
      let lines : Lines = lines_of facts.matches f in
      let most = kept_put (λ row. true) (λ row. nat_lt row.0 p) (λ row. nat_lt p row.0) (λ row. below_apart p row.0) (p, line) lines in
      let size = all_kept (with_line lines p line) in
      let at_most_64 : length (with_line lines p line) ≤ 64 = omega (arith, few, most, size) in
      ap (λ b. first_broken ((if b then Some rule.LinesFull else None) ∷ line_range line ∷ [])) (le-ltb 64 (length (with_line lines p line)) at_most_64)
      ∙ ap (λ o. first_broken (o ∷ [])) (none_is (line_range line) in_range)
