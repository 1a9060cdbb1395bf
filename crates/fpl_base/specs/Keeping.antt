-- What a keeper keeps: bodies of bytes under keys.
use Rattle.std.specs.Prelude.{◌≡◌, ◌≤◌, ℕ, Bool, IsTrue, ◌&&◌, ◌||◌, ◌==◌, nat_lt, if◌then◌else◌, List, [], ◌∷◌, fold, AllPairs, Option, Some, None, Result, Err, OnOk}
use Rattle.fpl_base.specs.Causes.{Rose}
use Rattle.fpl_base.specs.declared.outside.KeeperFault.{KeeperFault}
use Rattle.fpl_base.specs.declared.outside.KeeperFault.TheVariants as fault
use Rattle.fpl_base.specs.declared.records.RecordKey.{RecordKey as Key}
use Rattle.fpl_base.specs.declared.records.Op.{Op}
use Rattle.fpl_base.specs.declared.records.Op.TheVariants.{Put, Delete}

-- the body under each key, or none
abbrev pub Map : Type 0
Map = Key → Option (List ℕ)

-- no record at all
abbrev pub no_records : Map
no_records key = None

abbrev pub is_same_key : Key → Key → Bool
is_same_key x y = (x.kind == y.kind) && ((x.a == y.a) && ((x.b == y.b) && (x.c == y.c)))

-- what one change makes of a map
abbrev pub applied_one : Map → Op → Map
applied_one m (Put key body) other = if is_same_key key other then Some body else m other
applied_one m (Delete key) other = if is_same_key key other then None else m other

-- what a batch makes of a map, change by change
abbrev pub applied : Map → List Op → Map
applied = fold applied_one

-- pairs as a map: the first body that stands under a key
abbrev pub map_of : List (Key × List ℕ) → Map
map_of [] key = None
map_of (pair ∷ more) key = if is_same_key pair.0 key then Some pair.1 else map_of more key

-- the order of keys: by kind, then a, b and c
abbrev pub precedes : Key → Key → Bool
precedes x y = nat_lt x.kind y.kind || ((x.kind == y.kind) && (nat_lt x.a y.a || ((x.a == y.a) && (nat_lt x.b y.b || ((x.b == y.b) && nat_lt x.c y.c)))))

-- each key is greater than those before it
abbrev pub KeysRise : List (Key × List ℕ) → Type 0
KeysRise = AllPairs (λ x y. IsTrue (precedes x.0 y.0))

-- the count of a keeper never falls, `Failed` is answered only where it rose, and it rises only there
pub record HasKeeperCause {T : Type 0} (before now : ℕ) (result : Result T KeeperFault) : Type 0 where
  pub later : before ≤ now
  pub failed : result ≡ Err fault.Failed → Rose before now
  pub memory : result ≡ Err fault.Memory → now ≡ before
  pub ok : OnOk result (now ≡ before)
