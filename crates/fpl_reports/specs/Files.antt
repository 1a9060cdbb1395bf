-- What a row of each season file says.
use Rattle.std.specs.Prelude.{◌≡◌, ◌≢◌, ◌<◌, ◌≤◌, ◌==◌, [], ◌∷◌, false, true, ℕ, List, length}
use Rattle.std.specs.List.{list_any}
use Rattle.std.specs.Fmt.{decimal}
use Rattle.fpl_base.specs.Letters.{letter_of}
use Rattle.fpl_base.specs.Texts.{is_name}
use Rattle.season_calendar.specs.Instants.{IsInstant}
use Rattle.fpl_reports.specs.Rows.{Spells}
use Rattle.fpl_reports.specs.declared.files.PlayerRow.{PlayerRow}
use Rattle.fpl_reports.specs.declared.files.FixtureRow.{FixtureRow}

-- a club: its number and its name
pub record SpellsClub (fields : List (List ℕ)) (club : ℕ × List ℕ) : Type 0 where
  pub fields_are : fields ≡ decimal club.0 ∷ club.1 ∷ []
  pub id : (1 ≤ club.0) × (club.0 ≤ 255)
  pub name : is_name club.1 ≡ true

-- a club may follow at most 19 others, none of which has its number
pub record AddsClub (before : List (ℕ × List ℕ)) (fields : List (List ℕ)) (club : ℕ × List ℕ) : Type 0 where
  pub spelled : SpellsClub fields club
  pub few : length before < 20
  pub new_id : list_any (λ earlier. earlier.0 == club.0) before ≡ false

-- a player: his number, name, letter of his position, club and price in tenths of a million. Whether the club is
-- there, and whether he can have this price, is judged with his command
pub record SpellsPlayer (fields : List (List ℕ)) (row : PlayerRow) : Type 0 where
  pub fields_are : fields ≡ decimal row.id ∷ row.name ∷ letter_of row.position ∷ decimal row.club ∷ decimal row.price ∷ []
  pub id : (1 ≤ row.id) × (row.id ≤ 999999)
  pub name : is_name row.name ≡ true
  pub club : (1 ≤ row.club) × (row.club ≤ 255)
  pub price : row.price ≤ 65535

-- a player may follow any others
abbrev pub AddsPlayer : List PlayerRow → List (List ℕ) → PlayerRow → Type 0
AddsPlayer before fields row = SpellsPlayer fields row

-- the numbers of two clubs, which differ
abbrev pub ArePair : List ℕ → List ℕ → ℕ × ℕ → Type 0
ArePair home away clubs = Spells 1 255 home clubs.0 × Spells 1 255 away clubs.1 × (clubs.0 ≢ clubs.1)

-- a fixture: its number, the two clubs, which differ, its gameweek, and the instant of its kick-off, which is at least
-- 90 minutes after the first
pub record SpellsFixture (fields : List (List ℕ)) (row : FixtureRow) : Type 0 where
  pub instant : List ℕ
  pub fields_are : fields ≡ decimal row.id ∷ decimal row.home ∷ decimal row.away ∷ decimal row.gameweek ∷ instant ∷ []
  pub id : (1 ≤ row.id) × (row.id ≤ 999999)
  pub home : (1 ≤ row.home) × (row.home ≤ 255)
  pub away : (1 ≤ row.away) × (row.away ≤ 255)
  pub gameweek : (1 ≤ row.gameweek) × (row.gameweek ≤ 38)
  pub kickoff : IsInstant instant row.kickoff
  pub two_clubs : row.home ≢ row.away
  pub late : 5400 ≤ row.kickoff

-- a fixture may follow any others
abbrev pub AddsFixture : List FixtureRow → List (List ℕ) → FixtureRow → Type 0
AddsFixture before fields row = SpellsFixture fields row
