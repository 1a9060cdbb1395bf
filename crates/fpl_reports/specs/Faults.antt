-- Which row of three season files is the first wrong one.
use Rattle.std.specs.Prelude.{◌≡◌, ◌≢◌, ◌+◌, ◌⊎◌, [], ℕ, List, length}
use Rattle.fpl_reports.specs.Rows.{HasRows, HasWrongRow}
use Rattle.fpl_reports.specs.Files.{AddsClub, AddsPlayer, AddsFixture}
use Rattle.fpl_reports.specs.Folder.{EndsEarly}
use Rattle.fpl_reports.specs.declared.files.PlayerRow.{PlayerRow}
use Rattle.fpl_reports.specs.declared.files.FixtureRow.{FixtureRow}
use Rattle.fpl_reports.specs.declared.folder.FileFault.{FileFault}
use Rattle.fpl_reports.specs.declared.folder.FileFault.TheVariants as fault

-- of `clubs.csv` it is the first record that is no club, or row 1 where there is no record
abbrev pub WrongOfClubs : List ℕ → ℕ → Type 0
WrongOfClubs bytes n = HasWrongRow AddsClub bytes n ⊎ ((n ≡ 1) × HasRows AddsClub bytes [])

-- of `players.csv` it is the first record that is no player
abbrev pub WrongOfPlayers : List ℕ → ℕ → Type 0
WrongOfPlayers bytes n = HasWrongRow AddsPlayer bytes n

-- of `fixtures.csv` it is the first record that is no fixture, or the row behind the last where one is missing
abbrev pub WrongOfFixtures : ℕ → List ℕ → ℕ → Type 0
WrongOfFixtures split bytes n =
    HasWrongRow AddsFixture bytes n ⊎ ((rows : List FixtureRow) × HasRows AddsFixture bytes rows × EndsEarly split rows × (n ≡ length rows + 1))

-- the first two files have no wrong row
abbrev pub AreClubs : List ℕ → Type 0
AreClubs bytes = (rows : List (ℕ × List ℕ)) × HasRows AddsClub bytes rows × (rows ≢ [])

abbrev pub ArePlayers : List ℕ → Type 0
ArePlayers bytes = (rows : List PlayerRow) × HasRows AddsPlayer bytes rows

-- the first wrong row of the files, in their order, is row n of this file
abbrev pub IsFirstWrong : List ℕ → List ℕ → List ℕ → ℕ → ℕ → ℕ → Type 0
IsFirstWrong clubs players fixtures split file n =
    ((file ≡ 1) × WrongOfClubs clubs n)
    ⊎ ((file ≡ 2) × AreClubs clubs × WrongOfPlayers players n)
    ⊎ ((file ≡ 3) × AreClubs clubs × ArePlayers players × WrongOfFixtures split fixtures n)

-- why the files give no commands; want of memory needs no reason
abbrev pub ExplainsFiles : List ℕ → List ℕ → List ℕ → ℕ → FileFault → Type 0
ExplainsFiles clubs players fixtures split (fault.Row file n) = IsFirstWrong clubs players fixtures split file n
ExplainsFiles clubs players fixtures split fault.Memory = Unit {0}

-- why one of them has no rows that serve
abbrev pub ExplainsFile : ℕ → (ℕ → Type 0) → FileFault → Type 0
ExplainsFile which Wrong (fault.Row file n) = (file ≡ which) × Wrong n
ExplainsFile which Wrong fault.Memory = Unit {0}
