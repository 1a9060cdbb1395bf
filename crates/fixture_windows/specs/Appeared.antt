-- A player in a match: his side, and how much he has of each figure by which a match is told.
use Rattle.std.specs.Prelude.{ℕ, ℤ, pos, Bool, not, ◌&&◌, List, [], ◌∷◌, codes, filter, map, slice_index_or}
use Rattle.std.specs.Ordering.{int_eq}
use Rattle.serde_json.specs.Data.{Data, array, item, member, no_items, no_members, object, string}
use Rattle.rule_book.specs.declared.line.Line.{Line}
use Rattle.rule_book.specs.declared.season.Fixture.{Fixture}
use Rattle.season_book.specs.Book.{Facts}
use Rattle.season_book.specs.Windows.{listed}
use Rattle.season_book.specs.FixturesWindow.{bonus_in, bps_in, counted, greatest_first, value_row}
use Rattle.season_book.specs.LineSums.{assists_of, goals_of, own_goals_of, penalties_missed_of, penalties_saved_of, red_cards_of, saves_of, yellow_cards_of}
use Rattle.fixture_windows.specs.Sides.{is_side, side_of}
use Rattle.fixture_windows.specs.declared.appeared.Appeared.{Appeared}
use Rattle.fixture_windows.specs.declared.sides.Side.{Side}
use Rattle.fixture_windows.specs.declared.sides.Side.TheVariants.{Home, Away}
use Rattle.fixture_windows.specs.declared.told.Told.{Told}

-- how much a line has of each, in the order in which they are told
abbrev pub values_by : Facts → ℕ → ℕ × Line → List ℤ
values_by facts f row =
    counted goals_of row
    ∷ counted assists_of row
    ∷ counted own_goals_of row
    ∷ counted penalties_saved_of row
    ∷ counted penalties_missed_of row
    ∷ counted yellow_cards_of row
    ∷ counted red_cards_of row
    ∷ counted saves_of row
    ∷ bonus_in facts f row
    ∷ bps_in facts f row
    ∷ []

abbrev pub appeared_of : Facts → Fixture → ℕ × Line → Appeared
appeared_of facts fixture row = record {
  player = row.0;
  side = side_of facts fixture row.0;
  values = values_by facts fixture.id row;
}

-- how much one has of a figure, by its place
abbrev pub value_at : ℕ → Appeared → ℤ
value_at stat row = slice_index_or row.values stat (pos 0)

-- those of a side who have some of it
abbrev pub has_some : Side → ℕ → Appeared → Bool
has_some side stat row = is_side side row.side && not (int_eq (value_at stat row) (pos 0))

abbrev pub some_told : Side → ℕ → List Appeared → List (ℕ × ℤ)
some_told side stat rows = map (λ row. (row.player, value_at stat row)) (filter (has_some side stat) rows)

-- a player with how much he has
abbrev pub pair_of : Told → ℕ × ℤ
pair_of told = (told.player, told.value.0)

-- a figure of a match, by its name and its place
abbrev pub values_told : Side → ℕ → List Appeared → Data
values_told side stat rows = listed value_row (greatest_first (some_told side stat rows))

abbrev pub stat_told : List Appeared → List ℕ → ℕ → Data
stat_told rows name stat = object
    (member (codes "a") (values_told Away stat rows)
    (member (codes "h") (values_told Home stat rows)
    (member (codes "identifier") (string name)
    no_members)))

-- all of them
abbrev pub stats_told : List Appeared → Data
stats_told rows = array
    (item (stat_told rows (codes "goals_scored") 0)
    (item (stat_told rows (codes "assists") 1)
    (item (stat_told rows (codes "own_goals") 2)
    (item (stat_told rows (codes "penalties_saved") 3)
    (item (stat_told rows (codes "penalties_missed") 4)
    (item (stat_told rows (codes "yellow_cards") 5)
    (item (stat_told rows (codes "red_cards") 6)
    (item (stat_told rows (codes "saves") 7)
    (item (stat_told rows (codes "bonus") 8)
    (item (stat_told rows (codes "bps") 9)
    no_items))))))))))
