-- Members of bodies: what each is read as, and which is the first wrong one.
use Rattle.std.specs.Prelude.{◌≡◌, ℕ, Bool, ◌&&◌, ◌==◌, List, [], ◌∷◌, length, codes, nat_le, if◌then◌else◌, Option, Some, None, is_some, option_and_then, Result, Ok, Err, Vec, ⊤}
use Rattle.std.specs.Option.{option_map, option_map_or}
use Rattle.std.specs.declared.alloc.Global.{Global}
use Rattle.std.specs.Borrow.{Bor}
use Rattle.std.specs.Str.{bytes_eq, is_utf8}
use Rattle.fpl_base.specs.declared.kinds.Chip.{Chip}
use Rattle.fpl_base.specs.declared.kinds.Chip.TheVariants as chip
use Rattle.fpl_base.specs.declared.kinds.Position.{Position}
use Rattle.fpl_base.specs.declared.kinds.Position.TheVariants as position
use Rattle.fpl_base.specs.declared.kinds.Profile.{Profile}
use Rattle.fpl_base.specs.declared.kinds.Profile.TheVariants as profile
use Rattle.fpl_base.specs.Texts.{is_code, is_key, is_name}
use Rattle.rule_book.specs.declared.league.LeagueKind.{LeagueKind}
use Rattle.rule_book.specs.declared.league.LeagueKind.TheVariants as kind
use Rattle.serde_json.specs.Data.{Data, Items, no_items, item}
use Rattle.serde_json.specs.Find.{get, as_array, as_bool, as_null, as_number, as_object, as_str, as_u64}
use Rattle.serde_json.specs.Read.{read}
use Rattle.fpl_requests.specs.declared.field.FieldName.{FieldName}
use Rattle.fpl_requests.specs.declared.field.FieldName.TheVariants as field
use Rattle.fpl_requests.specs.declared.field.ReadFault.{ReadFault}
use Rattle.fpl_requests.specs.declared.field.ReadFault.TheVariants as fault
use Rattle.json_tree.specs.declared.parser.Parsed.{Parsed}
use Rattle.json_tree.specs.declared.tree.Items.{Items as Held}
use Rattle.fpl_requests.specs.FieldNames.{name_of}
use Rattle.json_tree.specs.Trees.{seen, view}

-- The first wrong member.

-- what is read, then what is read with it; the first wrong member ends the reading
infixl 10 ◌>>=◌
abbrev pub ◌>>=◌ : {A B : Type 0} → Result A FieldName → (A → Result B FieldName) → Result B FieldName
(Ok x) >>= next = next x
(Err which) >>= next = Err which

-- the value, or that this member is wrong
abbrev pub or_wrong : {A : Type 0} → FieldName → Option A → Result A FieldName
or_wrong which None = Err which
or_wrong which (Some x) = Ok x

-- whatever is wrong inside of this member, it is named
abbrev pub under : {A : Type 0} → FieldName → Result A FieldName → Result A FieldName
under which (Ok x) = Ok x
under which (Err inner) = Err which

-- Kinds of members.

-- the member of a value under its name
abbrev pub member : FieldName → Data → Option Data
member which d = get (name_of which) d

-- a whole number in a range
abbrev pub in_range : ℕ → ℕ → ℕ → Option ℕ
in_range low high n = if nat_le low n && nat_le n high then Some n else None

abbrev pub number_in : ℕ → ℕ → Data → Option ℕ
number_in low high d = option_and_then (in_range low high) (option_and_then as_u64 (as_number d))

abbrev pub whole : FieldName → ℕ → ℕ → Data → Result ℕ FieldName
whole which low high d = or_wrong which (option_and_then (number_in low high) (member which d))

-- ids, from 1: of clubs up to 255, of players and of fixtures up to 999,999
abbrev pub club_id : FieldName → Data → Result ℕ FieldName
club_id which d = whole which 1 255 d

abbrev pub player_id : FieldName → Data → Result ℕ FieldName
player_id which d = whole which 1 999999 d

abbrev pub fixture_id : FieldName → Data → Result ℕ FieldName
fixture_id which d = whole which 1 999999 d

-- a gameweek
abbrev pub gameweek : FieldName → Data → Result ℕ FieldName
gameweek which d = whole which 1 38 d

-- a price in tenths of a million
abbrev pub price : FieldName → Data → Result ℕ FieldName
price which d = whole which 0 65535 d

-- the last second of the year 9999, since 1970
abbrev pub last_moment : ℕ
last_moment = 253402300799

-- a moment
abbrev pub moment : FieldName → Data → Result ℕ FieldName
moment which d = whole which 0 last_moment d

-- a gameweek, or null for none
abbrev pub place_in : Data → Option (Option ℕ)
place_in d = if is_some (as_null d) then Some None else option_map Some (number_in 1 38 d)

abbrev pub place : FieldName → Data → Result (Option ℕ) FieldName
place which d = or_wrong which (option_and_then place_in (member which d))

-- true or false
abbrev pub truth : FieldName → Data → Result Bool FieldName
truth which d = or_wrong which (option_and_then as_bool (member which d))

-- a text
abbrev pub text : FieldName → Data → Result (List ℕ) FieldName
text which d = or_wrong which (option_and_then as_str (member which d))

-- a name
abbrev pub if_name : FieldName → List ℕ → Result (List ℕ) FieldName
if_name which bytes = if is_name bytes then Ok bytes else Err which

abbrev pub title : FieldName → Data → Result (List ℕ) FieldName
title which d = text which d >>= if_name which

-- a key
abbrev pub if_key : FieldName → List ℕ → Result (List ℕ) FieldName
if_key which bytes = if is_key bytes then Ok bytes else Err which

abbrev pub key : FieldName → Data → Result (List ℕ) FieldName
key which d = text which d >>= if_key which

-- a league's code
abbrev pub if_code : FieldName → List ℕ → Result (List ℕ) FieldName
if_code which bytes = if is_code bytes then Ok bytes else Err which

abbrev pub code : FieldName → Data → Result (List ℕ) FieldName
code which d = text which d >>= if_code which

-- a position by its letter
abbrev pub position_of : List ℕ → Option Position
position_of letter =
    if bytes_eq letter (codes "G") then Some position.Keeper
    else if bytes_eq letter (codes "D") then Some position.Defender
    else if bytes_eq letter (codes "M") then Some position.Midfielder
    else if bytes_eq letter (codes "F") then Some position.Forward
    else None

abbrev pub position_in : FieldName → Data → Result Position FieldName
position_in which d = text which d >>= λ letter. or_wrong which (position_of letter)

-- a chip by its name
abbrev pub chip_of : List ℕ → Option Chip
chip_of name =
    if bytes_eq name (codes "wildcard") then Some chip.Wildcard
    else if bytes_eq name (codes "free_hit") then Some chip.FreeHit
    else if bytes_eq name (codes "bench_boost") then Some chip.BenchBoost
    else if bytes_eq name (codes "triple_captain") then Some chip.TripleCaptain
    else None

abbrev pub chip_in : FieldName → Data → Result Chip FieldName
chip_in which d = text which d >>= λ name. or_wrong which (chip_of name)

-- how a league is decided, by its name: by total points, or by matches of two
abbrev pub kind_of : List ℕ → Option LeagueKind
kind_of name =
    if bytes_eq name (codes "classic") then Some kind.Classic
    else if bytes_eq name (codes "head") then Some kind.Head
    else None

abbrev pub kind_in : FieldName → Data → Result LeagueKind FieldName
kind_in which d = text which d >>= λ name. or_wrong which (kind_of name)

-- a profile by its number: 1 is A, and 2 is B
abbrev pub profile_of : Data → Option Profile
profile_of d = option_map (λ n. if n == 1 then profile.A else profile.B) (number_in 1 2 d)

-- a profile, which is A where the member is missing
abbrev pub profile_in : FieldName → Data → Result Profile FieldName
profile_in which d = option_map_or (λ one. or_wrong which (profile_of one)) (member which d) (Ok profile.A)

-- Lists.

-- a number in a range, as an item of the list of this name
abbrev pub in_list : FieldName → ℕ → ℕ → Option ℕ → Result ℕ FieldName
in_list which low high n = or_wrong which (option_and_then (in_range low high) n)

-- a whole number in a range, as an item of the list of this name
abbrev pub entry : FieldName → ℕ → ℕ → Data → Result ℕ FieldName
entry which low high d = or_wrong which (number_in low high d)

-- each of some items
abbrev pub each : {X : Type 0} → (Data → Result X FieldName) → Items → Result (List X) FieldName
each read_one no_items = Ok []
each read_one (item d ds) = read_one d >>= λ x. each read_one ds >>= λ xs. Ok (x ∷ xs)

-- a list of a length in a range
abbrev pub if_long : {X : Type 0} → FieldName → ℕ → ℕ → List X → Result (List X) FieldName
if_long which low high xs = if nat_le low (length xs) && nat_le (length xs) high then Ok xs else Err which

-- the items of a list
abbrev pub items : FieldName → Data → Result Items FieldName
items which d = or_wrong which (option_and_then as_array (member which d))

-- a list of a length in a range; whatever is wrong inside of it, the list is named
abbrev pub list : {X : Type 0} → FieldName → ℕ → ℕ → (Data → Result X FieldName) → Data → Result (List X) FieldName
list which low high read_one d = items which d >>= λ ds. under which (each read_one ds) >>= if_long which low high

-- Bodies.

-- the object that a body is
abbrev pub if_object : Data → Option Data
if_object d = option_map (λ _. d) (as_object d)

abbrev pub object_of : List ℕ → Result Data FieldName
object_of bytes = or_wrong field.Body (if is_utf8 bytes then option_and_then if_object (read bytes) else None)

-- Reading.

-- a fault of reading names the member that reading gives, unless memory ran out
abbrev pub FailsWith : {X : Type 0} → ReadFault → Result X FieldName → Type 0
FailsWith fault.Memory given = ⊤
FailsWith (fault.Malformed which) given = given ≡ Err which

-- what a function returned is what reading gives, unless memory ran out
abbrev pub Gives : {X : Type 0} → Result X ReadFault → Result X FieldName → Type 0
Gives (Ok x) given = given ≡ Ok x
Gives (Err e) given = FailsWith e given

-- the same of a list
abbrev pub GivesItems : {X : Type 0} → Result (Vec X Global) ReadFault → Result (List X) FieldName → Type 0
GivesItems (Ok v) given = given ≡ Ok v.items
GivesItems (Err e) given = FailsWith e given

-- the same of a text
abbrev pub GivesText : Result (Bor (List ℕ)) ReadFault → Result (List ℕ) FieldName → Type 0
GivesText (Ok bytes) given = given ≡ Ok bytes.now
GivesText (Err e) given = FailsWith e given

-- the same of items, seen as their data
abbrev pub GivesHeld : Result Held ReadFault → Result Items FieldName → Type 0
GivesHeld (Ok held) given = given ≡ Ok (seen held)
GivesHeld (Err e) given = FailsWith e given

-- the same of a body that was read, seen as its data
abbrev pub GivesObject : Result Parsed ReadFault → Result Data FieldName → Type 0
GivesObject (Ok read) given = given ≡ Ok (view read)
GivesObject (Err e) given = FailsWith e given
