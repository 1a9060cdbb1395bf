-- What a report of a view is: rows of comma-separated fields, a header first.
use Rattle.std.specs.Prelude.{◌≡◌, ◌+◌, ◌++◌, ◌==◌, ◌||◌, [], ◌∷◌, ℕ, List, Bool, true, false, Option, Some, None, cond, codes, map, flat_map, nat_le}
use Rattle.std.specs.List.{list_any}
use Rattle.std.specs.Fmt.{decimal, signed_decimal}
use Rattle.csv.specs.Writing.{default_writer, row_text}
use Rattle.fpl_base.specs.declared.kinds.Chip.{Chip}
use Rattle.fpl_base.specs.declared.kinds.Chip.TheVariants as chip
use Rattle.rule_book.specs.declared.team_score.Armband.{Armband}
use Rattle.season_book.specs.declared.shown.Shown.{Shown}
use Rattle.season_book.specs.declared.shown.Shown.TheVariants as shown
use Rattle.season_book.specs.declared.shown.ShownSeason.{ShownSeason}
use Rattle.season_book.specs.declared.shown.ShownLine.{ShownLine}
use Rattle.season_book.specs.declared.shown.ShownRanked.{ShownRanked}
use Rattle.season_book.specs.declared.shown.ShownHeadRanked.{ShownHeadRanked}
use Rattle.season_book.specs.declared.shown.ShownEntryGameweek.{ShownEntryGameweek}
use Rattle.season_calendar.specs.Instants.{IsInstant}

-- the rows, each with a line feed at its end, and its fields in quotes where they need them
abbrev pub rows_text : List (List (List ℕ)) → List ℕ
rows_text rows = flat_map (row_text default_writer) rows

-- 1 for yes, 0 for no
abbrev pub mark : Bool → List ℕ
mark b = cond b (codes "1") (codes "0")

-- A season: its gameweeks, the instants of their deadlines, and whether each is locked.

abbrev pub season_header : List (List ℕ)
season_header = codes "gameweek" ∷ codes "deadline" ∷ codes "locked" ∷ []

abbrev pub season_row : ℕ → ℕ → List ℕ → List (List ℕ)
season_row locked g deadline = decimal g ∷ deadline ∷ mark (nat_le g locked) ∷ []

-- the rows of these gameweeks, the first of which is gameweek g
abbrev pub season_rows : ℕ → ℕ → List (List ℕ) → List (List (List ℕ))
season_rows locked g [] = []
season_rows locked g (deadline ∷ deadlines) = season_row locked g deadline ∷ season_rows locked (g + 1) deadlines

-- the texts are the instants of these moments, one each
unfoldable pub AreInstants : List (List ℕ) → List ℕ → Type 0
AreInstants [] [] = Unit {0}
AreInstants (text ∷ texts) (moment ∷ moments) = IsInstant text moment × AreInstants texts moments
AreInstants texts moments = ⊥

-- the row of a gameweek is put behind these rows
pub record PutsGameweek (locked g moment : ℕ) (old new : List ℕ) : Type 0 where
  pub deadline : List ℕ
  pub instant : IsInstant deadline moment
  pub put : new ≡ old ++ row_text default_writer (season_row locked g deadline)

pub record IsSeasonReport (season : ShownSeason) (text : List ℕ) : Type 0 where
  pub deadlines : List (List ℕ)
  pub instants : AreInstants deadlines season.deadlines
  pub text_is : text ≡ rows_text (season_header ∷ season_rows season.locked 1 deadlines)

-- A table of a classic league.

abbrev pub classic_header : List (List ℕ)
classic_header = codes "rank" ∷ codes "entry" ∷ codes "name" ∷ codes "total" ∷ codes "transfers" ∷ []

abbrev pub classic_row : ShownRanked → List (List ℕ)
classic_row ranked =
    let row = ranked.row in
    decimal row.rank ∷ decimal row.entry ∷ ranked.name ∷ signed_decimal row.total ∷ decimal row.transfers ∷ []

-- A table of a head-to-head league.

abbrev pub head_header : List (List ℕ)
head_header = codes "rank" ∷ codes "entry" ∷ codes "name" ∷ codes "points" ∷ codes "won" ∷ codes "drawn" ∷ codes "lost" ∷ codes "scored" ∷ []

abbrev pub head_row : ShownHeadRanked → List (List ℕ)
head_row ranked =
    let score = ranked.row.score in
    decimal ranked.row.rank ∷ decimal ranked.row.entry ∷ ranked.name ∷ decimal score.points ∷ decimal score.won ∷ decimal score.drawn ∷ decimal score.lost
    ∷ signed_decimal score.scored ∷ []

-- The lines of a fixture.

abbrev pub fixture_header : List (List ℕ)
fixture_header = codes "player" ∷ codes "points" ∷ codes "bps" ∷ codes "bonus" ∷ []

abbrev pub fixture_row : ShownLine → List (List ℕ)
fixture_row line = decimal line.player ∷ signed_decimal line.points ∷ signed_decimal line.bps ∷ decimal line.bonus ∷ []

-- An entry's team in a gameweek: its fifteen slots, and then what it scored, after the points that transfers cost.

abbrev pub entry_header : List (List ℕ)
entry_header = codes "slot" ∷ codes "player" ∷ codes "counted" ∷ codes "factor" ∷ []

-- bench boost counts every slot
abbrev pub is_boost : Chip → Bool
is_boost chip.BenchBoost = true
is_boost chip = false

-- whether a slot counts: those of the eleven do, and with a bench boost all
abbrev pub counts : ShownEntryGameweek → ℕ → Bool
counts entry slot = list_any (λ s. s == slot) entry.score.eleven.slots || is_boost entry.chip

-- how many times a slot's points count: as often as the armband says of its own, and once of the others
abbrev pub factor_at : Option Armband → ℕ → ℕ
factor_at None slot = 1
factor_at (Some armband) slot = cond (armband.slot == slot) armband.factor 1

abbrev pub slot_row : ShownEntryGameweek → ℕ → ℕ → List (List ℕ)
slot_row entry slot player = decimal slot ∷ decimal player ∷ mark (counts entry slot) ∷ decimal (factor_at entry.score.armband slot) ∷ []

-- the rows of these players, the first of whom is in this slot
abbrev pub slot_rows : ShownEntryGameweek → ℕ → List ℕ → List (List (List ℕ))
slot_rows entry slot [] = []
slot_rows entry slot (player ∷ players) = slot_row entry slot player ∷ slot_rows entry (slot + 1) players

abbrev pub net_row : ShownEntryGameweek → List (List ℕ)
net_row entry = codes "net" ∷ signed_decimal entry.score.net ∷ [] ∷ [] ∷ []

abbrev pub entry_rows : ShownEntryGameweek → List (List (List ℕ))
entry_rows entry = entry_header ∷ (slot_rows entry 1 entry.players ++ net_row entry ∷ [])

-- the views that have a report
abbrev pub HasReport : Shown → Type 0
HasReport (shown.Season season) = Unit {0}
HasReport (shown.Fixture fixture) = Unit {0}
HasReport (shown.EntryGameweek entry) = Unit {0}
HasReport (shown.Classic league) = Unit {0}
HasReport (shown.Head league) = Unit {0}
HasReport view = ⊥

-- the text is the report of a view
abbrev pub IsReport : Shown → List ℕ → Type 0
IsReport (shown.Season season) text = IsSeasonReport season text
IsReport (shown.Fixture fixture) text = text ≡ rows_text (fixture_header ∷ map fixture_row fixture.lines)
IsReport (shown.EntryGameweek entry) text = text ≡ rows_text (entry_rows entry)
IsReport (shown.Classic league) text = text ≡ rows_text (classic_header ∷ map classic_row league.rows)
IsReport (shown.Head league) text = text ≡ rows_text (head_header ∷ map head_row league.rows)
IsReport view text = ⊥
