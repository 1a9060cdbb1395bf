-- The data that a tree stands for: what the tokens of its text say from its place on.
use Rattle.std.specs.Prelude.{◌≡◌, ◌≤◌, ◌&&◌, List, ◌++◌, length, nat_le, Bool, Some, is_some}
use Rattle.std.specs.Option.{option_map_or}
use Rattle.json.specs.Json as json
use Rattle.json.specs.Json.{items, value}
use Rattle.json.specs.Token.{Token}
use Rattle.json.specs.Tree.{depth, items_depth, items_tokens, json_tokens, members_depth, members_tokens}
use Rattle.serde_json.specs.Data.{Num, unsigned, negative, float, Data, null, boolean, number, string, array, object, Items, no_items, Members, no_members}
use Rattle.serde_json.specs.Read.{converted, max_depth, number_of, of_items, of_json, of_members}
use Rattle.json_tree.specs.declared.number.Number.{Number}
use Rattle.json_tree.specs.declared.number.Number.TheVariants as kind

-- a number, as it is held
abbrev pub number_view : Number → Num
number_view (kind.Whole n) = unsigned n
number_view (kind.Negative z) = negative z
number_view (kind.Float x) = float x

-- the data of the value that tokens begin with
unfoldable pub view : List Token → Data
view ts = option_map_or (λ p. p.0) (converted of_json (value max_depth ts)) null

-- the data of the items that tokens begin with, up to the end of their list
unfoldable pub seen : List Token → Items
seen ts = option_map_or (λ p. p.0) (converted of_items (items (value max_depth) (length ts) ts)) no_items

-- each number of a value fits a float, and its lists and objects nest no deeper than 127
abbrev pub is_readable : json.Json → Bool
is_readable j = is_some (of_json j) && nat_le (depth j) max_depth

-- tokens begin with a value that is this data, and go on with the rest
abbrev pub Begins : List Token → Data → List Token → Type 0
Begins ts d rest = (j : json.Json) × (ts ≡ json_tokens j ++ rest) × (of_json j ≡ Some d) × (depth j ≤ max_depth)

-- tokens begin with these items and the end of their list, and go on with the rest
abbrev pub BeginsItems : List Token → Items → List Token → Type 0
BeginsItems ts ds rest = (js : json.Items) × (ts ≡ items_tokens js ++ rest) × (of_items js ≡ Some ds) × (items_depth js ≤ max_depth)

-- tokens begin with members and the end of their object, which make these of those found before, and go on with the rest
abbrev pub BeginsMembers : List Token → Members → Members → List Token → Type 0
BeginsMembers ts found ms rest = (js : json.Members) × (ts ≡ members_tokens js ++ rest) × (of_members js found ≡ Some ms) × (members_depth js ≤ max_depth)

-- what the first token of a value tells of its data
abbrev pub Tells : Token → Data → Type 0
Tells Token.begin_object d = (ms : Members) × (d ≡ object ms)
Tells Token.end_object d = ⊥
Tells Token.begin_array d = (ds : Items) × (d ≡ array ds)
Tells Token.end_array d = ⊥
Tells (Token.key s) d = ⊥
Tells (Token.string s) d = d ≡ string s
Tells (Token.number s) d = (n : Num) × (number_of s ≡ Some n) × (d ≡ number n)
Tells (Token.boolean b) d = d ≡ boolean b
Tells Token.null d = d ≡ null
Tells Token.bad d = ⊥

-- tokens begin with a value that can be read
abbrev pub HasData : List Token → Type 0
HasData ts = (d : Data) × (rest : List Token) × Begins ts d rest

-- tokens begin with items that can be read, and the end of their list
abbrev pub HasItems : List Token → Type 0
HasItems ts = (ds : Items) × (rest : List Token) × BeginsItems ts ds rest

-- tokens begin with members that can be read, and the end of their object
abbrev pub HasMembers : List Token → Type 0
HasMembers ts = (ms : Members) × (rest : List Token) × BeginsMembers ts no_members ms rest
