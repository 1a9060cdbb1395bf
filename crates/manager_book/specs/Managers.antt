-- The entries of a season, in the order of issue.
use Rattle.std.specs.Prelude.{◌≡◌, ◌≢◌, ◌≤◌, ◌+◌, ◌-◌, ℕ, Bool, not, ◌||◌, ◌==◌, List, [], ◌∷◌, length, map, Option, Some, None, is_some, slice_get, slice_index_or, ⊤, if◌then◌else◌, nat_lt}
use Rattle.std.specs.List.{list_any}
use Rattle.std.specs.Option.{option_map}
use Rattle.std.specs.Str.{bytes_eq}
use Rattle.fpl_base.specs.declared.kinds.Profile.{Profile}
use Rattle.fpl_base.specs.declared.rule.Rule.{Rule}
use Rattle.fpl_base.specs.declared.rule.Rule.TheVariants as rule
use Rattle.rule_book.specs.declared.transfers.Sale.{Sale}
use Rattle.rule_book.specs.Entries.{changed_in, most_entries}
use Rattle.rule_book.specs.Refusals.{first_broken, unless}
use Rattle.season_ledger.specs.declared.row.Row.{Row}
use Rattle.season_ledger.specs.Rows.{Rise, rows_had}
use Rattle.manager_book.specs.declared.manager.Manager.{Manager}

-- by which rules the season is played, and the managers: entry 1 is the first
pub record Managers : Type 0 where
  pub profile : Profile
  pub managers : List Manager

-- what there is of an entry that was not issued
abbrev pub nobody : Manager
nobody = record { key = []; name = []; season = []; sales = [] }

-- the manager of an entry
abbrev pub manager_in : List Manager → ℕ → Manager
manager_in managers e = slice_index_or managers (e - 1) nobody

-- the rows of an entry: none where it was not issued
abbrev pub season_of : Managers → ℕ → List Row
season_of book e = (manager_in book.managers e).season

-- the transfers of an entry in the order of making, each with its gameweek: none where it was not issued
abbrev pub sales_of : Managers → ℕ → List (ℕ × Sale)
sales_of book e = (manager_in book.managers e).sales

-- a transfer names a player
abbrev pub sales_name : List (ℕ × Sale) → ℕ → Bool
sales_name sales p = list_any (λ made. (made.1.out == p) || (made.1.into == p)) sales

-- a player stands in a team of a manager's, or one of his transfers names him
abbrev pub manager_had : Manager → ℕ → Bool
manager_had m p = rows_had m.season p || sales_name m.sales p

-- some manager's so
abbrev pub managers_had : List Manager → ℕ → Bool
managers_had managers p = list_any (λ m. manager_had m p) managers

-- the rows of each manager rise by gameweek
abbrev pub AreRisen : List Manager → Type 0
AreRisen managers = (e : ℕ) → Rise (manager_in managers e).season

-- the key and the name of an entry
abbrev pub key_of : Managers → ℕ → Option (List ℕ)
key_of book e = option_map (λ m. m.key) (slice_get book.managers (e - 1))

abbrev pub name_of : Managers → ℕ → Option (List ℕ)
name_of book e = option_map (λ m. m.name) (slice_get book.managers (e - 1))

-- the number of the first manager with a key, counted from n on
abbrev pub number_from : ℕ → List Manager → List ℕ → Option ℕ
number_from n [] key = None
number_from n (m ∷ managers) key = if bytes_eq key m.key then Some n else number_from (n + 1) managers key

-- the entry with a key
abbrev pub entry_with : Managers → List ℕ → Option ℕ
entry_with book key = number_from 1 book.managers key

-- no two managers have the same key: nobody behind a manager has his
abbrev pub AreApart : List Manager → Type 0
AreApart [] = ⊤
AreApart (m ∷ managers) = (number_from 1 managers m.key ≡ None) × AreApart managers

-- an entry with another key and another name
abbrev pub with_key : List ℕ → List ℕ → Manager → Manager
with_key key name m = record m { key = key; name = name }

-- the managers where one has another key and another name
abbrev pub rekeyed : List Manager → ℕ → List ℕ → List ℕ → List Manager
rekeyed managers e key name = changed_in (with_key key name) managers e

-- other entries stay, and so do all keys and names and the profile
pub record IsSameBut (e : ℕ) (old new : Managers) : Type 0 where
  pub profile : new.profile ≡ old.profile
  pub keys : map {B = List ℕ × List ℕ} (λ m. (m.key, m.name)) new.managers ≡ map {B = List ℕ × List ℕ} (λ m. (m.key, m.name)) old.managers
  pub others : (d : ℕ) → 1 ≤ d → d ≢ e → season_of new d ≡ season_of old d
  pub sales : (d : ℕ) → 1 ≤ d → d ≢ e → sales_of new d ≡ sales_of old d

-- why a new entry is refused: there is no room, or an entry has its key
abbrev pub issue_refusal : Managers → List ℕ → Option Rule
issue_refusal book key =
    first_broken (unless (nat_lt (length book.managers) most_entries) rule.EntriesFull ∷ unless (not (is_some (entry_with book key))) rule.KeyThere ∷ [])
