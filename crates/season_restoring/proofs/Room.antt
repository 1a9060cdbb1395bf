-- How many of a kind there are once records were taken: no more than there are records of it.
use Rattle.std.proofs.Common.{◌≡◌, ◌<◌, ◌≤◌, ◌+◌, ◌==◌, ℕ, zero, suc, Bool, true, false, cond, List, [], ◌∷◌, ◌++◌, filter, length, get_or, take, Some, None, nat_lt, arith, refl, sym, ap, subst, ◌∙◌}
use Rattle.std.specs.Prelude.{count_by}
use Rattle.std.specs.List.{AllByRecursion as Each}
use Rattle.std.specs.Option.{option_map_or}
use Rattle.std.proofs.lemmas.Bool.{true≢false}
use Rattle.std.proofs.lemmas.Bool.Decides.{nat_tests}
use Rattle.std.proofs.Math.Seq.{take-nil}
use Rattle.std.proofs.lemmas.List.Sums.{sum_by-cons}
use Rattle.fpl_base.specs.Keeping.{is_same_key, map_of, precedes}
use Rattle.fpl_base.specs.declared.records.RecordKey.{RecordKey}
use Rattle.rule_book.specs.Calendar.{is_gameweek}
use Rattle.rule_book.specs.MatchFacts.{is_finished, lines_of, with_line}
use Rattle.season_book.specs.Book.{Facts}
use Rattle.season_records.specs.ItemReading.{item_of}
use Rattle.season_records.specs.Items.{key_of_item}
use Rattle.season_records.specs.Keys.{key_of}
use Rattle.season_records.specs.declared.item.Item.{Item}
use Rattle.season_records.specs.declared.item.Item.TheVariants as item
use Rattle.season_records.specs.declared.slot.Slot.TheVariants as slot
use Rattle.stored_records.specs.SeasonRules.{place_in}
use Rattle.stored_records.specs.Stored.{Rows}
use Rattle.season_records.proofs.Sheets.{sheet_by}
use Rattle.season_restoring.specs.Restored.{fixture_told, player_told, with_item, with_row, with_rows, with_spelled}
use Rattle.season_restoring.proofs.Rows.{IsSpelled, Row}

-- Lists with one put in, at its place.

module _ {X : Type 0} where
  kept_append : (p : X → Bool) (xs ys : List X) → length (filter p (xs ++ ys)) ≡ length (filter p xs) + length (filter p ys)
  kept_append p [] ys = omega arith
  kept_append p (x ∷ xs) ys = grind (arith, nat_tests, kept_append p xs ys)

  kept_parts : (p low high : X → Bool) → ((x : X) → low x ≡ true → high x ≡ false) → (xs : List X)
      → length (filter p (filter low xs)) + length (filter p (filter high xs)) ≤ length (filter p xs)
  kept_parts p low high apart [] = omega arith
  kept_parts p low high apart (x ∷ xs) = grind (arith, nat_tests, apart x, kept_parts p low high apart xs)

  first_kept : (p : X → Bool) (x : X) (xs : List X) → length (filter p (x ∷ xs)) ≡ cond (p x) 1 0 + length (filter p xs)
  first_kept p x xs = grind (arith, nat_tests)

  pub kept_put : (p low high : X → Bool) → ((x : X) → low x ≡ true → high x ≡ false) → (new : X) (xs : List X)
      → length (filter p (filter low xs ++ new ∷ filter high xs)) ≤ length (filter p xs) + cond (p new) 1 0
  kept_put p low high apart new xs =
      omega (arith, kept_append p (filter low xs) (new ∷ filter high xs), first_kept p new (filter high xs), kept_parts p low high apart xs)

  pub all_kept : (xs : List X) → length (filter (λ x. true) xs) ≡ length xs
  all_kept [] = refl
  all_kept (x ∷ xs) = ap suc (all_kept xs)

pub below_apart : (k n : ℕ) → nat_lt n k ≡ true → nat_lt k n ≡ false
below_apart k n lt = grind (arith, nat_tests, lt)

-- What is counted of the facts, and which items add to it.

abbrev pub players_of : Facts → ℕ
players_of facts = length (filter (λ p. true) facts.players)

abbrev pub is_player : Item → Bool
is_player (item.Player p position club price gone name) = true
is_player i = false

abbrev pub fixtures_of : Facts → ℕ
fixtures_of facts = length (filter (λ x. true) facts.calendar.fixtures)

abbrev pub is_fixture : Item → Bool
is_fixture (item.Fixture f home away g kickoff finished) = true
is_fixture i = false

abbrev pub fixtures_at : ℕ → Facts → ℕ
fixtures_at g facts = length (filter (λ x. is_gameweek g x.gw) facts.calendar.fixtures)

abbrev pub is_fixture_at : ℕ → Item → Bool
is_fixture_at g i = is_gameweek g (place_in (Some i))

abbrev pub lines_count : ℕ → Facts → ℕ
lines_count f facts = length (filter (λ row. true) (lines_of facts.matches f))

abbrev pub is_line_of : ℕ → Item → Bool
is_line_of f (item.Line g p line) = g == f
is_line_of f i = false

abbrev one_if : Bool → ℕ
one_if b = cond b 1 0

-- an item adds at most itself
abbrev pub AddsOne : (Facts → ℕ) → (Item → Bool) → Type 0
AddsOne size test = (facts : Facts) (i : Item) → size (with_item facts i) ≤ size facts + cond (test i) 1 0

pub players_add : AddsOne players_of is_player
players_add facts (item.Player p position club price gone name) =
    kept_put (λ x. true) (λ x. nat_lt x.id p) (λ x. nat_lt p x.id) (λ x. below_apart p x.id) (player_told p position club price gone name) facts.players
players_add facts (item.Club c name) = omega arith
players_add facts (item.Fixture f home away g kickoff finished) = omega arith
players_add facts (item.Line f p line) = omega arith
players_add facts i = omega arith

pub fixtures_add : AddsOne fixtures_of is_fixture
fixtures_add facts (item.Fixture f home away g kickoff finished) =
    kept_put (λ x. true) (λ x. nat_lt x.id f) (λ x. nat_lt f x.id) (λ x. below_apart f x.id) (fixture_told f home away g kickoff) facts.calendar.fixtures
fixtures_add facts (item.Club c name) = omega arith
fixtures_add facts (item.Player p position club price gone name) = omega arith
fixtures_add facts (item.Line f p line) = omega arith
fixtures_add facts i = omega arith

pub fixtures_at_add : (g : ℕ) → AddsOne (fixtures_at g) (is_fixture_at g)
fixtures_at_add g facts (item.Fixture f home away h kickoff finished) =
    kept_put (λ x. is_gameweek g x.gw) (λ x. nat_lt x.id f) (λ x. nat_lt f x.id) (λ x. below_apart f x.id) (fixture_told f home away h kickoff) facts.calendar.fixtures
fixtures_at_add g facts (item.Club c name) = omega arith
fixtures_at_add g facts (item.Player p position club price gone name) = omega arith
fixtures_at_add g facts (item.Line f p line) = omega arith
fixtures_at_add g facts i = omega arith

pub lines_add : (f : ℕ) → AddsOne (lines_count f) (is_line_of f)
lines_add f facts (item.Line g p line) =
    sheet_by (λ s. length (filter (λ row. true) s.lines) ≤ lines_count f facts + cond (g == f) 1 0) facts.matches g
    (record { lines = with_line (lines_of facts.matches g) p line; finished = is_finished facts.matches g }) f (λ here.
    let most = kept_put (λ row. true) (λ row. nat_lt row.0 p) (λ row. nat_lt p row.0) (λ row. below_apart p row.0) (p, line) (lines_of facts.matches g) in
    let same : (g == f) ≡ true = grind (arith, nat_tests, here) in
    let size : lines_count g facts ≡ lines_count f facts = ap (λ f. lines_count f facts) (sym here) in
    omega (arith, most, size, ap {B = ℕ} (λ b. cond b 1 0) same))
    (omega arith)
lines_add f facts (item.Fixture g home away h kickoff finished) =
    sheet_by (λ s. length (filter (λ row. true) s.lines) ≤ lines_count f facts + 0) facts.matches g
    (record { lines = lines_of facts.matches g; finished = finished }) f (λ here.
    let size : lines_count g facts ≡ lines_count f facts = ap (λ f. lines_count f facts) (sym here) in
    omega (arith, size))
    (omega arith)
lines_add f facts (item.Club c name) = omega arith
lines_add f facts (item.Player p position club price gone name) = omega arith
lines_add f facts i = omega arith

-- Records.

-- a record tells an item that passes the test
abbrev pub tells : (Item → Bool) → Row → Bool
tells test row = option_map_or test (item_of row.0 row.1) false

pub counted : (size : Facts → ℕ) (test : Item → Bool) → AddsOne size test → (rows : Rows) (facts : Facts) → Each IsSpelled rows
    → size (with_rows facts rows) ≤ size facts + count_by (tells test) rows
counted size test adds [] facts each = omega arith
counted size test adds (row ∷ rows) facts each =
    let i = each.0.told in
    let rest = counted size test adds rows (with_row facts row) each.1 in
    let now : size (with_row facts row) ≡ size (with_item facts i) = ap (λ o. size (with_spelled facts o)) each.0.is in
    let own : one_if (tells test row) ≡ one_if (test i) = ap (λ o. one_if (option_map_or test o false)) each.0.is in
    omega (arith, rest, now, own, adds facts i, sum_by-cons (λ r. cond (tells test r) 1 0) row rows)

-- the records in front that pass a test are no more than those of all that pass another which these pass too
pub count_front : (test other : Row → Bool) (rows : Rows) (n : ℕ) → ((k : ℕ) (d : Row) → k < n → k < length rows → test (get_or rows k d) ≡ true → other (get_or rows k d) ≡ true)
    → count_by test (take n rows) ≤ count_by other rows
count_front test other [] n passes = subst (λ rows. count_by test rows ≤ 0) (sym (take-nil n)) (omega arith)
count_front test other (row ∷ rows) zero passes = omega arith
count_front test other (row ∷ rows) (suc n) passes =
    let rest = count_front test other rows n (λ k d lt within. passes (suc k) d (omega (arith, lt)) (omega (arith, within))) in
    let first : one_if (test row) ≤ one_if (other row) = by (test row) refl in
    omega (arith, rest, first, sum_by-cons (λ r. cond (test r) 1 0) row (take n rows), sum_by-cons (λ r. cond (other r) 1 0) row rows)
  where
    by : (b : Bool) → test row ≡ b → one_if b ≤ one_if (other row)
    by true is = omega (arith, ap one_if (passes zero row (omega arith) (omega arith) is))
    by false is = omega arith

-- no record in front has a key that none of them has
pub none_front : (rows : Rows) (n : ℕ) (key : RecordKey) → ((k : ℕ) (d : Row) → k < n → k < length rows → is_same_key (get_or rows k d).0 key ≡ false) → map_of (take n rows) key ≡ None
none_front [] n key apart = ap (λ rows. map_of rows key) (take-nil n)
none_front (row ∷ rows) zero key apart = refl
none_front (row ∷ rows) (suc n) key apart =
    ap (λ b. cond b (Some row.1) (map_of (take n rows) key)) (apart zero row (omega arith) (omega arith))
    ∙ none_front rows n key (λ k d lt within. apart (suc k) d (omega (arith, lt)) (omega (arith, within)))

-- Keys of a kind are not before the first key that one of the kind can have.

pub player_from : (i : Item) → is_player i ≡ true → precedes (key_of_item i) (key_of (slot.Player 0)) ≡ false
player_from (item.Player p position club price gone name) is = grind (arith, nat_tests)
player_from (item.Season profile split locked deadlines) is = absurd (true≢false (sym is))
player_from (item.Club c name) is = absurd (true≢false (sym is))
player_from (item.Fixture f home away g kickoff finished) is = absurd (true≢false (sym is))
player_from (item.Line f p line) is = absurd (true≢false (sym is))
player_from (item.Entry e first key name) is = absurd (true≢false (sym is))
player_from (item.Team e g picks captain vice bank chip) is = absurd (true≢false (sym is))
player_from (item.Transfer e g n out into sold bought) is = absurd (true≢false (sym is))
player_from (item.League l kind start creator order code name) is = absurd (true≢false (sym is))
player_from (item.Member l e) is = absurd (true≢false (sym is))
player_from (item.Cup c start slots coins) is = absurd (true≢false (sym is))
player_from (item.Last c n status made last) is = absurd (true≢false (sym is))

pub fixture_from : (i : Item) → is_fixture i ≡ true → precedes (key_of_item i) (key_of (slot.Fixture 0)) ≡ false
fixture_from (item.Fixture f home away g kickoff finished) is = grind (arith, nat_tests)
fixture_from (item.Season profile split locked deadlines) is = absurd (true≢false (sym is))
fixture_from (item.Club c name) is = absurd (true≢false (sym is))
fixture_from (item.Player p position club price gone name) is = absurd (true≢false (sym is))
fixture_from (item.Line f p line) is = absurd (true≢false (sym is))
fixture_from (item.Entry e first key name) is = absurd (true≢false (sym is))
fixture_from (item.Team e g picks captain vice bank chip) is = absurd (true≢false (sym is))
fixture_from (item.Transfer e g n out into sold bought) is = absurd (true≢false (sym is))
fixture_from (item.League l kind start creator order code name) is = absurd (true≢false (sym is))
fixture_from (item.Member l e) is = absurd (true≢false (sym is))
fixture_from (item.Cup c start slots coins) is = absurd (true≢false (sym is))
fixture_from (item.Last c n status made last) is = absurd (true≢false (sym is))

-- one that stands in a gameweek is a fixture
pub at_is_fixture : (g : ℕ) (i : Item) → is_fixture_at g i ≡ true → is_fixture i ≡ true
at_is_fixture g (item.Fixture f home away h kickoff finished) is = refl
at_is_fixture g (item.Season profile split locked deadlines) is = is
at_is_fixture g (item.Club c name) is = is
at_is_fixture g (item.Player p position club price gone name) is = is
at_is_fixture g (item.Line f p line) is = is
at_is_fixture g (item.Entry e first key name) is = is
at_is_fixture g (item.Team e h picks captain vice bank chip) is = is
at_is_fixture g (item.Transfer e h n out into sold bought) is = is
at_is_fixture g (item.League l kind start creator order code name) is = is
at_is_fixture g (item.Member l e) is = is
at_is_fixture g (item.Cup c start slots coins) is = is
at_is_fixture g (item.Last c n status made last) is = is

pub line_from : (f : ℕ) (i : Item) → is_line_of f i ≡ true → precedes (key_of_item i) (key_of (slot.Line f 0)) ≡ false
line_from f (item.Line g p line) is = grind (arith, nat_tests, is)
line_from f (item.Season profile split locked deadlines) is = absurd (true≢false (sym is))
line_from f (item.Club c name) is = absurd (true≢false (sym is))
line_from f (item.Player p position club price gone name) is = absurd (true≢false (sym is))
line_from f (item.Fixture g home away h kickoff finished) is = absurd (true≢false (sym is))
line_from f (item.Entry e first key name) is = absurd (true≢false (sym is))
line_from f (item.Team e g picks captain vice bank chip) is = absurd (true≢false (sym is))
line_from f (item.Transfer e g n out into sold bought) is = absurd (true≢false (sym is))
line_from f (item.League l kind start creator order code name) is = absurd (true≢false (sym is))
line_from f (item.Member l e) is = absurd (true≢false (sym is))
line_from f (item.Cup c start slots coins) is = absurd (true≢false (sym is))
line_from f (item.Last c n status made last) is = absurd (true≢false (sym is))
