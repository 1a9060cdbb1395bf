-- The season files of a folder.
use Rattle.std.specs.Prelude.{◌≡◌, ◌<◌, ◌≤◌, ◌-◌, ◌==◌, ◌⊎◌, ◌++◌, [], ◌∷◌, ℕ, List, Option, IfSome, Result, Ok, Err, codes, if◌then◌else◌, length, take, ⊤}
use Rattle.fpl_base.specs.Causes.{Rose}
use Rattle.fpl_base.specs.declared.kinds.Profile.{Profile}
use Rattle.fpl_base.specs.declared.outside.ShelfFault.{ShelfFault}
use Rattle.fpl_base.specs.declared.outside.ShelfFault.TheVariants as shelf
use Rattle.season_book.specs.declared.command.Command.{Command}
use Rattle.fpl_reports.specs.Faults.{IsFirstWrong}
use Rattle.fpl_reports.specs.Folder.{AreOrders}
use Rattle.fpl_loading.specs.declared.files.LoadFault.{LoadFault}
use Rattle.fpl_loading.specs.declared.files.LoadFault.TheVariants as fault

-- the names of the three files
abbrev pub clubs_name : List ℕ
clubs_name = codes "clubs.csv"

abbrev pub players_name : List ℕ
players_name = codes "players.csv"

abbrev pub fixtures_name : List ℕ
fixtures_name = codes "fixtures.csv"

-- the name of the season file of a number: the first, the second and the last of them
abbrev pub file_name : ℕ → List ℕ
file_name file = if file == 1 then clubs_name else if file == 2 then players_name else fixtures_name

-- the names of the files that come before the one of a number
abbrev pub names_before : ℕ → List (List ℕ)
names_before file = take (file - 1) (clubs_name ∷ players_name ∷ fixtures_name ∷ [])

-- a file of a folder has this name on the shelf: the folder's path, a solidus, and its own name
abbrev pub path_in : List ℕ → List ℕ → List ℕ
path_in folder name = folder ++ 47 ∷ name

-- a text is what the shelf has under a name, if it tells its files, and no longer than a file may be
pub record IsFile (files : Option (List ℕ → List ℕ)) (path text : List ℕ) : Type 0 where
  pub told : IfSome files (λ bytes_of. text ≡ bytes_of path)
  pub short : length text ≤ 4194304

-- three texts are those of the season files of a folder
pub record AreFiles (files : Option (List ℕ → List ℕ)) (folder clubs players fixtures : List ℕ) : Type 0 where
  pub clubs_are : IsFile files (path_in folder clubs_name) clubs
  pub players_are : IsFile files (path_in folder players_name) players
  pub fixtures_are : IsFile files (path_in folder fixtures_name) fixtures

-- a file is too long, or it is not
abbrev pub IsLong : (List ℕ → List ℕ) → List ℕ → Type 0
IsLong bytes_of path = 4194304 < length (bytes_of path)

abbrev pub IsShort : (List ℕ → List ℕ) → List ℕ → Type 0
IsShort bytes_of path = length (bytes_of path) ≤ 4194304

-- the files of these names are short
abbrev pub AreShort : (List ℕ → List ℕ) → List ℕ → List (List ℕ) → Type 0
AreShort bytes_of folder [] = ⊤
AreShort bytes_of folder (name ∷ names) = IsShort bytes_of (path_in folder name) × AreShort bytes_of folder names

-- the files before the one of a number are short
abbrev pub AreShortBefore : List ℕ → ℕ → (List ℕ → List ℕ) → Type 0
AreShortBefore folder file bytes_of = AreShort bytes_of folder (names_before file)

-- the file of a number is too long, and none before it is
abbrev pub IsFirstLong : List ℕ → ℕ → (List ℕ → List ℕ) → Type 0
IsFirstLong folder file bytes_of = AreShortBefore folder file bytes_of × IsLong bytes_of (path_in folder (file_name file))

-- the season files of a folder order these commands
abbrev pub AreOrdered : Option (List ℕ → List ℕ) → List ℕ → ℕ → Profile → List Command → Type 0
AreOrdered files folder split profile commands =
    (clubs players fixtures : List ℕ) × AreFiles files folder clubs players fixtures × AreOrders clubs players fixtures split profile commands

-- why they order none: the first wrong row of the three texts, or the first file that is too long; where the shelf failed at a
-- file, which its count tells, none before that is too long; and want of memory needs no reason
abbrev pub ExplainsLoad : Option (List ℕ → List ℕ) → List ℕ → ℕ → LoadFault → Type 0
ExplainsLoad files folder split (fault.Row file row) =
    (clubs players fixtures : List ℕ) × AreFiles files folder clubs players fixtures × IsFirstWrong clubs players fixtures split file row
ExplainsLoad files folder split (fault.Long file) = IfSome files (IsFirstLong folder file)
ExplainsLoad files folder split (fault.Shelf file) = IfSome files (AreShortBefore folder file)
ExplainsLoad files folder split fault.Memory = ⊤

-- what a fault of one file says: that it is too long where it is, and nothing else
abbrev pub ExplainsFile : Option (List ℕ → List ℕ) → List ℕ → ℕ → LoadFault → Type 0
ExplainsFile files folder file (fault.Long named) = IfSome files (λ bytes_of. IsLong bytes_of (path_in folder (file_name file)))
ExplainsFile files folder file why = ⊤

-- In which order the files are read: `once old path came new` says that a shelf was asked for the file of a path, once, and what
-- came of it.

-- files of a folder were read one after another, each of them once, and had whole and short
abbrev pub HasRead : {F : Type 0} → (F → List ℕ → Result (List ℕ) ShelfFault → F → Type 0) → Option (List ℕ → List ℕ) → List ℕ → List (List ℕ) → F → F → Type 0
HasRead once files folder [] old new = new ≡ old
HasRead {F} once files folder (name ∷ names) old new =
    (text : List ℕ) × (mid : F) × IsFile files (path_in folder name) text × once old (path_in folder name) (Ok text) mid × HasRead once files folder names mid new

-- so were those before the file of a number, and this fault came of reading that one
abbrev pub EndsAt : {F : Type 0} → (F → List ℕ → Result (List ℕ) ShelfFault → F → Type 0) → Option (List ℕ → List ℕ) → List ℕ → ℕ → ShelfFault → F → F → Type 0
EndsAt {F} once files folder file why old new =
    (mid : F) × HasRead once files folder (names_before file) old mid × once mid (path_in folder (file_name file)) (Err why) new

-- the season files were read in their order, up to the first that was not had, which the fault names, and nothing behind it;
-- memory may be wanting before a file is read, or as it is
abbrev pub IsReadUntil : {F : Type 0} → (F → List ℕ → Result (List ℕ) ShelfFault → F → Type 0) → Option (List ℕ → List ℕ) → List ℕ → LoadFault → F → F → Type 0
IsReadUntil once files folder (fault.Shelf file) old new = EndsAt once files folder file shelf.Failed old new
IsReadUntil once files folder (fault.Long file) old new = EndsAt once files folder file shelf.Long old new
IsReadUntil once files folder (fault.Row file row) old new = HasRead once files folder (names_before 4) old new
IsReadUntil once files folder fault.Memory old new =
    (file : ℕ) × (HasRead once files folder (names_before file) old new ⊎ EndsAt once files folder file shelf.Memory old new)

-- they were read so, and each of them had where there are commands
abbrev pub IsReadFor : {F T : Type 0} → (F → List ℕ → Result (List ℕ) ShelfFault → F → Type 0) → Option (List ℕ → List ℕ) → List ℕ → Result T LoadFault → F → F → Type 0
IsReadFor once files folder (Ok had) old new = HasRead once files folder (names_before 4) old new
IsReadFor once files folder (Err why) old new = IsReadUntil once files folder why old new

-- one file was read so
abbrev pub IsFileRead : {F : Type 0} → (F → List ℕ → Result (List ℕ) ShelfFault → F → Type 0) → List ℕ → ℕ → Result (List ℕ) LoadFault → F → F → Type 0
IsFileRead once folder file (Ok text) old new = once old (path_in folder (file_name file)) (Ok text) new
IsFileRead once folder file (Err (fault.Shelf named)) old new = (named ≡ file) × once old (path_in folder (file_name file)) (Err shelf.Failed) new
IsFileRead once folder file (Err (fault.Long named)) old new = (named ≡ file) × once old (path_in folder (file_name file)) (Err shelf.Long) new
IsFileRead once folder file (Err (fault.Row named row)) old new = ⊥
IsFileRead once folder file (Err fault.Memory) old new = (new ≡ old) ⊎ once old (path_in folder (file_name file)) (Err shelf.Memory) new

-- a fault of the shelf at the file of a number, as one of the load
abbrev pub load_fault : ℕ → ShelfFault → LoadFault
load_fault file shelf.Failed = fault.Shelf file
load_fault file shelf.Long = fault.Long file
load_fault file shelf.Memory = fault.Memory

-- the shelf failed at some file
abbrev pub IsShelfFault : LoadFault → Type 0
IsShelfFault (fault.Shelf file) = ⊤
IsShelfFault why = ⊥

-- the count of a shelf rose where the shelf failed, and there alone
abbrev pub IsLoadCaused : {T : Type 0} → ℕ → ℕ → Result T LoadFault → Type 0
IsLoadCaused before now (Err (fault.Shelf file)) = Rose before now
IsLoadCaused before now result = now ≡ before

-- and it never falls
pub record HasLoadCause {T : Type 0} (before now : ℕ) (result : Result T LoadFault) : Type 0 where
  pub later : before ≤ now
  pub caused : IsLoadCaused before now result
