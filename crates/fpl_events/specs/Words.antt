-- How the fields of a row spell an event.
use Rattle.std.specs.Prelude.{◌≡◌, ◌≤◌, ℕ, List, Option, Some, None, codes, length}
use Rattle.std.specs.Fmt.{decimal}
use Rattle.csv.specs.Records.{field_at}
use Rattle.match_events.specs.declared.event.Event.{Event}
use Rattle.match_events.specs.declared.event.EventKind.{EventKind}
use Rattle.match_events.specs.declared.event.EventKind.TheVariants as kind
use Rattle.match_events.specs.declared.event.Side.{Side}
use Rattle.match_events.specs.declared.event.Side.TheVariants as side

-- the word of a kind of event
abbrev pub kind_word : EventKind → List ℕ
kind_word kind.Start = codes "start"
kind_word kind.Sub = codes "sub"
kind_word kind.Goal = codes "goal"
kind_word kind.Own = codes "own"
kind_word kind.Yellow = codes "yellow"
kind_word kind.Red = codes "red"

-- the letter of a side
abbrev pub side_letter : Side → List ℕ
side_letter side.Home = codes "h"
side_letter side.Away = codes "a"

-- a start names its side; every other event has a dash there, and stands for itself as one of the home side
abbrev pub SpellsSide : EventKind → List ℕ → Side → Type 0
SpellsSide kind.Start field own = field ≡ side_letter own
SpellsSide other field own = (field ≡ codes "-") × (own ≡ side.Home)

-- a field spells this number, which is in a range: in decimal, without sign or leading zero
abbrev pub IsNumberAt : List (List ℕ) → ℕ → ℕ → ℕ → ℕ → Type 0
IsNumberAt fields place least greatest n = (least ≤ n) × (n ≤ greatest) × (field_at fields place ≡ Some (decimal n))

-- a field names a second player, or none by a 0
abbrev pub NamesOther : List (List ℕ) → ℕ → Option ℕ → Type 0
NamesOther fields place None = field_at fields place ≡ Some (decimal 0)
NamesOther fields place (Some player) = IsNumberAt fields place 1 999999 player

-- the first field is this word, and there are so many fields
abbrev pub Begins : List (List ℕ) → List ℕ → ℕ → Type 0
Begins fields word count = (length fields ≡ count) × (field_at fields 0 ≡ Some word)

-- the fields from the third on spell an event: minute, kind, side, player, second player
pub record SpellsEvent (fields : List (List ℕ)) (event : Event) : Type 0 where
  pub minute : IsNumberAt fields 2 0 255 event.minute
  pub kind : field_at fields 3 ≡ Some (kind_word event.kind)
  pub side_field : List ℕ
  pub side_there : field_at fields 4 ≡ Some side_field
  pub side : SpellsSide event.kind side_field event.side
  pub player : IsNumberAt fields 5 1 999999 event.player
  pub other : NamesOther fields 6 event.other
