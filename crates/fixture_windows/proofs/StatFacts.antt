-- The figures of a match told by its table are those of its lines.
use Rattle.std.proofs.Common.{◌≡◌, ◌≢◌, ◌∙◌, sym, ap, refl, ℕ, ℤ, pos, Bool, true, false, not, ◌&&◌, cond, List, [], ◌∷◌, map, filter, AllPairs, arith, get_or, length, if◌then◌else◌}
use Rattle.std.specs.Prelude.{Some, None, codes}
use Rattle.std.specs.Ordering.{int_eq}
use Rattle.std.proofs.lemmas.List.{get_or-map, length-map}
use Rattle.std.proofs.lemmas.Simd.{map-map}
use Rattle.serde_json.specs.Data.{Data, array, item, member, no_items, no_members, object, string}
use Rattle.json_members.specs.Tokens.{tokens_of}
use Rattle.rule_book.specs.declared.line.Line.{Line}
use Rattle.rule_book.specs.declared.season.Fixture.{Fixture}
use Rattle.rule_book.specs.MatchFacts.{Lines, has_facts, lines_of}
use Rattle.season_book.specs.Book.{Facts}
use Rattle.season_book.specs.Windows.{listed}
use Rattle.fixture_windows.specs.Appeared.{appeared_of, has_some, some_told, stat_told, stats_told, value_at, values_told}
use Rattle.season_book.specs.FixturesWindow.{bonus_in, bps_in, counted, greatest_first, is_at_home, is_away, plays_for, some_of, stat_row, stats_data, stats_of, value_row, values_of}
use Rattle.season_book.specs.LineSums.{assists_of, goals_of, own_goals_of, penalties_missed_of, penalties_saved_of, red_cards_of, saves_of, yellow_cards_of}
use Rattle.fixture_windows.specs.MatchRows.{IsMatch}
use Rattle.fixture_windows.specs.Sides.{is_side, side_of}
use Rattle.fixture_windows.specs.declared.appeared.Appeared.{Appeared}
use Rattle.fixture_windows.specs.declared.sides.Side.{Side}
use Rattle.fixture_windows.specs.declared.sides.Side.TheVariants.{Home, Away}
use Rattle.fixture_windows.proofs.ListFacts.{firsts, rising_differ}

-- a figure with both of its lists, and all figures
abbrev stat_by : List ℕ → Data → Data → Data
stat_by name away home = object
    (member (codes "a") away
    (member (codes "h") home
    (member (codes "identifier") (string name)
    no_members)))

abbrev stats_by : Data → Data → Data → Data → Data → Data → Data → Data → Data → Data → Data
stats_by a b c d e f g h j k =
    array (item a (item b (item c (item d (item e (item f (item g (item h (item j (item k no_items))))))))))

home_by : (h a : Bool) → is_side Home (if h then Some Home else if a then Some Away else None) ≡ h
home_by true a = refl
home_by false true = refl
home_by false false = refl

away_by : (h p : Bool) → is_side Away (if h then Some Home else if not h && p then Some Away else None) ≡ (not h && p)
away_by true p = refl
away_by false true = refl
away_by false false = refl

module _ (facts : Facts) (fixture : Fixture) where
  at_home : (p : ℕ) → is_side Home (side_of facts fixture p) ≡ is_at_home facts fixture p
  at_home p = home_by (is_at_home facts fixture p) (is_away facts fixture p)

  away : (p : ℕ) → is_side Away (side_of facts fixture p) ≡ is_away facts fixture p
  away p = away_by (is_at_home facts fixture p) (plays_for facts fixture.away p)

  module _ (side : Side) (is_own : ℕ → Bool) (sides : (p : ℕ) → is_side side (side_of facts fixture p) ≡ is_own p) (stat : ℕ) (value : ℕ × Line → ℤ) (same : (row : ℕ × Line) → value_at stat (appeared_of facts fixture row) ≡ value row) where
    abbrev told_pair : Appeared → ℕ × ℤ
    told_pair r = (r.player, value_at stat r)

    abbrev row_pair : ℕ × Line → ℕ × ℤ
    row_pair r = (r.0, value r)

    abbrev counts : ℕ × Line → Bool
    counts r = is_own r.0 && not (int_eq (value r) (pos 0))

    one_by : (row : ℕ × Line) (rest : List Appeared) (lines : Lines) (b : Bool) → map told_pair rest ≡ map row_pair lines
        → map told_pair (cond b (appeared_of facts fixture row ∷ rest) rest) ≡ map row_pair (cond b (row ∷ lines) lines)
    one_by row rest lines true so = λ i. (row.0, same row i) ∷ so i
    one_by row rest lines false so = so

    counts_as : (row : ℕ × Line) → has_some side stat (appeared_of facts fixture row) ≡ counts row
    counts_as row = λ i. sides row.0 i && not (int_eq (same row i) (pos 0))

    some_same : (lines : Lines) → some_told side stat (map (appeared_of facts fixture) lines) ≡ some_of is_own value lines
    some_same [] = refl
    some_same (row ∷ lines) =
        one_by row (filter (has_some side stat) (map (appeared_of facts fixture) lines)) (filter counts lines) (has_some side stat (appeared_of facts fixture row)) (some_same lines)
        ∙ ap (λ b. map row_pair (cond b (row ∷ filter counts lines) (filter counts lines))) (counts_as row)

    values_same : (lines : Lines) → values_told side stat (map (appeared_of facts fixture) lines) ≡ values_of is_own value lines
    values_same lines = ap (λ rows. listed value_row (greatest_first rows)) (some_same lines)

  stat_same : (name : List ℕ) (stat : ℕ) (value : ℕ × Line → ℤ) → ((row : ℕ × Line) → value_at stat (appeared_of facts fixture row) ≡ value row)
      → stat_told (map (appeared_of facts fixture) (lines_of facts.matches fixture.id)) name stat ≡ stat_row facts fixture (name, value)
  stat_same name stat value same =
      let lines = lines_of facts.matches fixture.id in
      λ i. stat_by name (values_same Away (is_away facts fixture) away stat value same lines i) (values_same Home (is_at_home facts fixture) at_home stat value same lines i)

  pub stats_same : stats_told (map (appeared_of facts fixture) (lines_of facts.matches fixture.id)) ≡ listed (stat_row facts fixture) (stats_of facts fixture.id)
  stats_same =
      λ i. stats_by
      (stat_same (codes "goals_scored") 0 (counted goals_of) (λ row. refl) i)
      (stat_same (codes "assists") 1 (counted assists_of) (λ row. refl) i)
      (stat_same (codes "own_goals") 2 (counted own_goals_of) (λ row. refl) i)
      (stat_same (codes "penalties_saved") 3 (counted penalties_saved_of) (λ row. refl) i)
      (stat_same (codes "penalties_missed") 4 (counted penalties_missed_of) (λ row. refl) i)
      (stat_same (codes "yellow_cards") 5 (counted yellow_cards_of) (λ row. refl) i)
      (stat_same (codes "red_cards") 6 (counted red_cards_of) (λ row. refl) i)
      (stat_same (codes "saves") 7 (counted saves_of) (λ row. refl) i)
      (stat_same (codes "bonus") 8 (bonus_in facts fixture.id) (λ row. refl) i)
      (stat_same (codes "bps") 9 (bps_in facts fixture.id) (λ row. refl) i)

-- the players of a match differ
pub appeared_differ : (facts : Facts) (fixture : Fixture) (players : List ℕ) (lines : List Line) (bonuses : List (ℕ × ℕ)) → IsMatch facts fixture.id players lines bonuses → (rows : List Appeared) → rows ≡ map (appeared_of facts fixture) (lines_of facts.matches fixture.id)
    → AllPairs (λ (a b : Appeared). a.player ≢ b.player) rows
appeared_differ facts fixture players lines bonuses m rows are i j d less lt e =
    let player : Appeared → ℕ = λ r. r.player in
    let first : ℕ × Line → ℕ = λ r. r.0 in
    let numbers : map player rows ≡ players = ap (map player) are ∙ map-map player (appeared_of facts fixture) (lines_of facts.matches fixture.id) ∙ ap (map first) (sym m.rows) ∙ firsts players lines m.paired in
    let this : get_or players i 0 ≡ (get_or rows i d).player = sym (ap (λ (ns : List ℕ). get_or ns i 0) numbers) ∙ get_or-map player rows i d 0 (omega (arith, less, lt)) in
    let other : get_or players j 0 ≡ (get_or rows j d).player = sym (ap (λ (ns : List ℕ). get_or ns j 0) numbers) ∙ get_or-map player rows j d 0 lt in
    rising_differ players m.rise i j 0 less (omega (arith, lt, length-map rows player, ap length numbers)) (this ∙ e ∙ sym other)

-- what is told once a match has started, and before that
pub stats_started : (facts : Facts) (fixture : Fixture) (rows : List Appeared) → rows ≡ map (appeared_of facts fixture) (lines_of facts.matches fixture.id) → true ≡ has_facts facts.matches fixture.id → tokens_of (stats_told rows) ≡ tokens_of (stats_data facts fixture)
stats_started facts fixture rows are started =
    ap (λ l. tokens_of (stats_told l)) are ∙ ap tokens_of (stats_same facts fixture)
    ∙ ap (λ b. tokens_of (if b then listed (stat_row facts fixture) (stats_of facts fixture.id) else array no_items)) started

pub stats_before : (facts : Facts) (fixture : Fixture) → false ≡ has_facts facts.matches fixture.id → tokens_of (array no_items) ≡ tokens_of (stats_data facts fixture)
stats_before facts fixture before =
    ap (λ b. tokens_of (if b then listed (stat_row facts fixture) (stats_of facts fixture.id) else array no_items)) before
