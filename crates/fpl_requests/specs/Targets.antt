-- The targets that are served, and what is asked there.
use Rattle.std.specs.Prelude.{◌≡◌, ◌⊎◌, ◌≤◌, ℕ, zero, suc, List, [], ◌∷◌, Option, Some, None, codes, Bool, true, false, not, ◌==◌, nat_eq, ◌&&◌, ◌+◌, ◌-◌, length, drop, take, if◌then◌else◌}
use Rattle.std.specs.Fmt.{decimal}
use Rattle.std.specs.List.{ends_with, starts_with}
use Rattle.std.specs.Str.{IsUtf8, bytes_eq}
use Rattle.fpl_requests.specs.declared.route.Asks.{Asks}
use Rattle.fpl_requests.specs.declared.route.Asks.TheVariants.{Command, View}
use Rattle.fpl_requests.specs.declared.route.Callers.{Callers}
use Rattle.fpl_requests.specs.declared.route.Callers.TheVariants.{Operator, Entry, Both}
use Rattle.fpl_requests.specs.declared.route.CommandRoute.TheVariants as command
use Rattle.fpl_requests.specs.declared.route.Found.{Found}
use Rattle.fpl_requests.specs.declared.route.Found.TheVariants as found
use Rattle.fpl_requests.specs.declared.route.ViewRoute.TheVariants as view
use Rattle.fpl_requests.specs.declared.routes.Ids.{Ids}
use Rattle.fpl_requests.specs.declared.routes.Ids.TheVariants as ids
use Rattle.fpl_requests.specs.declared.route.Method.{Method}
use Rattle.fpl_requests.specs.declared.route.Method.TheVariants.{Get, Post}
use Rattle.fpl_requests.specs.declared.routes.Place.{Place}

-- The table.

-- a route: its method, the pattern of its targets with a name in braces for each id, who may ask it, and what it asks
abbrev pub Row : Type 0
Row = Method × List ℕ × Callers × Asks

abbrev pub served : List Row
served =
    (Post, codes "/season", Operator, Command command.Season)
    ∷ (Post, codes "/deadlines", Operator, Command command.Deadlines)
    ∷ (Post, codes "/players", Operator, Command command.Players)
    ∷ (Post, codes "/players/{p}", Operator, Command command.AmendPlayer)
    ∷ (Post, codes "/prices", Operator, Command command.Prices)
    ∷ (Post, codes "/clubs", Operator, Command command.Clubs)
    ∷ (Post, codes "/gone", Operator, Command command.Gone)
    ∷ (Post, codes "/fixtures", Operator, Command command.Fixtures)
    ∷ (Post, codes "/fixtures/{f}", Operator, Command command.AmendFixture)
    ∷ (Post, codes "/fixtures/{f}/move", Operator, Command command.Move)
    ∷ (Post, codes "/fixtures/{f}/sheet", Operator, Command command.Sheet)
    ∷ (Post, codes "/fixtures/{f}/line", Operator, Command command.Line)
    ∷ (Post, codes "/fixtures/{f}/drop", Operator, Command command.Drop)
    ∷ (Post, codes "/fixtures/{f}/finished", Operator, Command command.Finished)
    ∷ (Post, codes "/keys", Operator, Command command.Keys)
    ∷ (Post, codes "/keys/{e}", Operator, Command command.Rekey)
    ∷ (Post, codes "/squad", Entry, Command command.Squad)
    ∷ (Post, codes "/transfers", Entry, Command command.Transfers)
    ∷ (Post, codes "/lineup", Entry, Command command.Lineup)
    ∷ (Post, codes "/chip", Entry, Command command.Chip)
    ∷ (Post, codes "/chip/cancel", Entry, Command command.CancelChip)
    ∷ (Post, codes "/leagues", Entry, Command command.Leagues)
    ∷ (Post, codes "/leagues/{l}/join", Entry, Command command.Join)
    ∷ (Post, codes "/leagues/{l}/draw", Operator, Command command.Draw)
    ∷ (Post, codes "/cups", Operator, Command command.Cups)
    ∷ (Get, codes "/season", Both, View view.ShowSeason)
    ∷ (Get, codes "/me", Entry, View view.ShowMe)
    ∷ (Get, codes "/players/{p}", Both, View view.ShowPlayer)
    ∷ (Get, codes "/players/{p}/gameweeks/{g}", Both, View view.ShowPlayerGameweek)
    ∷ (Get, codes "/fixtures/{f}", Both, View view.ShowFixture)
    ∷ (Get, codes "/entries/{e}/gameweeks/{g}", Both, View view.ShowEntryGameweek)
    ∷ (Get, codes "/leagues/{l}", Both, View view.ShowLeague)
    ∷ (Get, codes "/cups/{c}", Both, View view.ShowCup)
    ∷ (Get, codes "/api/me", Both, View view.WindowMe)
    ∷ (Get, codes "/api/entries", Both, View view.WindowEntries)
    ∷ (Get, codes "/api/leagues", Both, View view.WindowLeagues)
    ∷ (Get, codes "/api/my-leagues", Entry, View view.WindowMyLeagues)
    ∷ (Get, codes "/api/cups", Both, View view.WindowCups)
    ∷ (Get, codes "/api/fixtures/{f}/sheet", Both, View view.WindowSheet)
    ∷ (Get, codes "/api/entry/{e}", Both, View view.WindowEntry)
    ∷ (Get, codes "/api/event/{g}/live", Both, View view.WindowLive)
    ∷ (Get, codes "/api/entry/{e}/history", Both, View view.WindowHistory)
    ∷ (Get, codes "/api/bootstrap-static", Both, View view.WindowBootstrap)
    ∷ (Get, codes "/api/fixtures", Both, View view.WindowFixtures)
    ∷ (Get, codes "/api/element-summary/{p}", Both, View view.WindowElement)
    ∷ (Get, codes "/api/dream-team/{g}", Both, View view.WindowDreamTeam)
    ∷ (Get, codes "/api/entry/{e}/event/{g}/picks", Both, View view.WindowPicks)
    ∷ (Get, codes "/api/entry/{e}/transfers", Both, View view.WindowTransfers)
    ∷ (Get, codes "/api/leagues-classic/{l}/standings", Both, View view.WindowClassicStandings)
    ∷ (Get, codes "/api/leagues-h2h/{l}/standings", Both, View view.WindowHeadStandings)
    ∷ (Get, codes "/api/leagues-h2h-matches/league/{l}", Both, View view.WindowHeadMatches)
    ∷ (Get, codes "/api/cups/{c}", Both, View view.WindowCup)
    ∷ []

abbrev pub is_method : Method → Method → Bool
is_method Post Post = true
is_method Post Get = false
is_method Get Post = false
is_method Get Get = true

-- one more segment that is an id; a third is none
abbrev pub with_id : Ids → ℕ → Ids
with_id ids.None n = ids.One n
with_id (ids.One a) n = ids.Two a n
with_id (ids.Two a b) n = ids.Two a b

-- which segments are ids, with those that were found before, of what is left of a pattern behind so many slashes
abbrev pub ids_from : Ids → ℕ → List ℕ → Ids
ids_from before slashes [] = before
ids_from before slashes (b ∷ p) =
    if b == 123 then ids_from (with_id before (slashes - 1)) slashes p
    else if b == 47 then ids_from before (slashes + 1) p
    else ids_from before slashes p

-- which segments of the targets of a pattern are ids, counted from 0
abbrev pub ids_in : List ℕ → Ids
ids_in p = ids_from ids.None 0 p

-- what is served at the targets of a row
abbrev pub place_of : Row → Place
place_of row = record { ids = ids_in row.1; route = record { callers = row.2; asks = row.3 } }

-- the patterns of a method, with what is served there
abbrev pub rows_at : Method → List Row → List (List ℕ × Place)
rows_at method [] = []
rows_at method (row ∷ rest) = if is_method row.0 method then (row.1, place_of row) ∷ rows_at method rest else rows_at method rest

-- Shapes: patterns with 256 in place of each name in braces.

-- the shape of what is left of a pattern, from inside of braces or not
abbrev pub shape_from : Bool → List ℕ → List ℕ
shape_from inside [] = []
shape_from true (b ∷ p) = shape_from (not (b == 125)) p
shape_from false (b ∷ p) = if b == 123 then 256 ∷ shape_from true p else b ∷ shape_from false p

abbrev pub shapes : List (List ℕ × Place) → List (List ℕ × Place)
shapes [] = []
shapes (row ∷ rest) = (shape_from false row.0, row.1) ∷ shapes rest

-- Segments.

-- what stands before the first slash of a path
abbrev pub own_segment : List ℕ → List ℕ
own_segment [] = []
own_segment (b ∷ path) = if b == 47 then [] else b ∷ own_segment path

-- from the first slash on
abbrev pub after_segment : List ℕ → List ℕ
after_segment [] = []
after_segment (b ∷ path) = if b == 47 then b ∷ path else after_segment path

-- a segment of a target, which begins behind a slash, counted from 0
abbrev pub segment_at : ℕ → List ℕ → List ℕ
segment_at zero target = own_segment (drop 1 target)
segment_at (suc n) target = segment_at n (after_segment (drop 1 target))

-- a target fits a shape segment by segment, and no id is empty
abbrev pub fits : List ℕ → List ℕ → Bool
fits [] path = length path == 0
fits (x ∷ p) [] = false
fits (x ∷ p) (b ∷ path) = if x == 256 then (if b == 47 then false else fits p (after_segment path)) else (if x == b then fits p path else false)

-- a segment spells an id in decimal, without a sign and without a zero in front of another digit
abbrev pub IsId : List ℕ → ℕ → Type 0
IsId segment id = (id ≤ 4294967295) × (segment ≡ decimal id)

-- the ids of a target, by which of its segments are ids; else 0
abbrev pub AreIds : Ids → List ℕ → List ℕ → Type 0
AreIds ids.None target ns = ns ≡ 0 ∷ 0 ∷ []
AreIds (ids.One n) target ns = (a : ℕ) × IsId (segment_at n target) a × (ns ≡ a ∷ 0 ∷ [])
AreIds (ids.Two n m) target ns = (a b : ℕ) × IsId (segment_at n target) a × IsId (segment_at m target) b × (ns ≡ a ∷ b ∷ [])

-- this stands at that shape in a list
abbrev pub Has : {K : Type 0} → List ℕ → K → List (List ℕ × K) → Type 0
Has p k [] = ⊥
Has p k ((t, j) ∷ rest) = ((t ≡ p) × (j ≡ k)) ⊎ Has p k rest

-- a target has the shape of a pattern of this method, at which this is served
abbrev pub IsShaped : Method → Place → List ℕ → Type 0
IsShaped method place target = (p : List ℕ) × Has p place (shapes (rows_at method served)) × (fits p target ≡ true)

-- a target is text of the shape of a pattern of this method, and its ids are these
abbrev pub Fits : Method → Place → List ℕ → List ℕ → Type 0
Fits method place target ns = IsUtf8 target × IsShaped method place target × AreIds place.ids target ns

-- What is found.

-- the method that these bytes name
abbrev pub method_of : List ℕ → Option Method
method_of bytes =
    if bytes_eq bytes (codes "POST") then Some Post
    else if bytes_eq bytes (codes "GET") then Some Get
    else None

-- a target without the slash that it may end with below /api/
abbrev pub bare : List ℕ → List ℕ
bare target =
    if starts_with nat_eq target (codes "/api/") && ends_with nat_eq target (codes "/") then take (length target - 1) target
    else target

-- what a method and a bare target ask for
abbrev pub IsFoundAt : List ℕ → List ℕ → Found → Type 0
IsFoundAt bytes target (found.Route route ns) =
    (method : Method) × (place : Place) × (method_of bytes ≡ Some method) × Fits method place target ns × (place.route ≡ route)
IsFoundAt bytes target found.Method =
    ((method : Method) × (place : Place) × (ns : List ℕ) × Fits method place target ns)
    × ((method : Method) (place : Place) (ns : List ℕ) → method_of bytes ≡ Some method → Fits method place target ns → ⊥)
IsFoundAt bytes target found.Unknown = (method : Method) (place : Place) (ns : List ℕ) → Fits method place target ns → ⊥

-- what a method and a target ask for
abbrev pub IsFound : List ℕ → List ℕ → Found → Type 0
IsFound bytes target found = IsFoundAt bytes (bare target) found

-- a method and a target ask for one thing
abbrev pub OneFound : Type 0
OneFound = (method target : List ℕ) (a b : Found) → IsFound method target a → IsFound method target b → a ≡ b
