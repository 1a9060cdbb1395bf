-- A tree of places by their keys, as the records that stand in it. A key whose place is empty has no record.
use Rattle.std.specs.Prelude.{◌≡◌, ◌⊎◌, ℕ, List, [], ◌∷◌, Option, Some, None, cond, IsSome}
use Rattle.std.specs.declared.cmp.Ordering.{Ordering}
use Rattle.std.specs.List.{filter_map}
use Rattle.std.specs.Map.{keys_of, lookup}
use Rattle.std.specs.List.Sorted.{IsStrictlySortedBy}
use Rattle.std.specs.BTreeMap.{is_at}
use Rattle.std.specs.Option.{option_map, unwrap_or}
use Rattle.fpl_base.specs.declared.records.RecordKey.{RecordKey as Key}
use Rattle.fpl_base.specs.contracts.records.RecordKeyOrd.TheImpl as order
use Rattle.fpl_base.specs.Keeping.{Map, is_same_key}

-- the keys of a tree in its order, each with its place
abbrev pub Places : Type 0
Places = List (Key × Option (List ℕ))

-- how the tree orders its keys
abbrev pub key_cmp : Key → Key → Ordering
key_cmp = order.ghosts.cmp

-- the keys rise
abbrev pub AreOrdered : Places → Type 0
AreOrdered places = IsStrictlySortedBy key_cmp (keys_of places)

-- the record of a key and its place, if there is one
abbrev pub record_of : Key × Option (List ℕ) → Option (Key × List ℕ)
record_of entry = option_map (λ body. (entry.0, body)) entry.1

-- the records, in the order of their keys
abbrev pub records : Places → List (Key × List ℕ)
records = filter_map record_of

-- the place of a key, if the tree has the key
abbrev pub place_at : Places → Key → Option (Option (List ℕ))
place_at places key = lookup (is_at (key_cmp key)) places

-- the body under each key, or none
abbrev pub bodies_in : Places → Map
bodies_in places key = unwrap_or (place_at places key) None

-- a body that is to stand under a key has a place there
abbrev pub HasPlace : Places → Key × Option (List ℕ) → Type 0
HasPlace places entry = IsSome entry.1 → IsSome (place_at places entry.0)

-- the new tree has each key of the old one
abbrev pub KeepsPlaces : Places → Places → Type 0
KeepsPlaces old new = (key : Key) → IsSome (place_at old key) → IsSome (place_at new key)

-- the map with this at a key: a body, or none
abbrev pub placed : Map → Key × Option (List ℕ) → Map
placed m entry other = cond (is_same_key entry.0 other) entry.1 (m other)

-- the map with what stood at keys put back, the last one first
abbrev pub undone : Map → List (Key × Option (List ℕ)) → Map
undone m [] = m
undone m (entry ∷ more) = placed (undone m more) entry

-- the new tree has this at the place of a key that the old one has, and is else as the old one
pub record IsFilled (key : Key) (place : Option (List ℕ)) (old new : Places) : Type 0 where
  pub there : IsSome (place_at old key) → (other : Key) → place_at new other ≡ cond (is_at (key_cmp key) other) (Some place) (place_at old other)
  pub away : place_at old key ≡ None → new ≡ old

-- with this put back at its key, which has a place for it, the new tree has the bodies of the old one; no key is lost
pub record IsStored (old new : Places) (was : Key × Option (List ℕ)) : Type 0 where
  pub back : placed (bodies_in new) was ≡ bodies_in old
  pub place : HasPlace new was
  pub others : KeepsPlaces old new

-- the new tree has this at the place of a key, which it makes where a body lacks one, and this stood there before
pub record IsExchanged (key : Key) (place : Option (List ℕ)) (old new : Places) (was : Key × Option (List ℕ)) : Type 0 where
  pub key_is : was.0 ≡ key
  pub there : IsSome (place_at old key) → place_at old key ≡ Some was.1
  pub away : place_at old key ≡ None → was.1 ≡ None
  pub set : (IsSome (place_at old key) ⊎ IsSome place) → (other : Key) → place_at new other ≡ cond (is_at (key_cmp key) other) (Some place) (place_at old other)
  pub same : place_at old key ≡ None → place ≡ None → new ≡ old
