-- What the members of a draft league score over the locked gameweeks, and their table.
use Rattle.std.specs.Prelude.{◌≡◌, ◌+◌, ◌==◌, ◌&&◌, ◌++◌, [], ◌∷◌, ℕ, zero, suc, ℤ, pos, negsuc, ◌+ℤ◌, int_lt, if◌then◌else◌, Bool, List, find, map, count_by, codes}
use Rattle.std.specs.List.{flat_map}
use Rattle.std.specs.Option.{option_map_or}
use Rattle.std.specs.Fmt.{decimal, signed_decimal}
use Rattle.fpl_base.specs.declared.kinds.Position.{Position}
use Rattle.squad_rules.specs.Dreams.{IsGreatestTotal}
use Rattle.squad_rules.specs.Elevens.{Row}
use Rattle.draft_league.specs.Leagues.{League, held_at}
use Rattle.draft_league.specs.Squads.{players_in}
use Rattle.fpl_drafting.specs.declared.totals.Told.{Told}
use Rattle.fpl_drafting.specs.declared.totals.Total.{Total}

-- the numbers from 1 to this one
abbrev pub up_to : ℕ → List ℕ
up_to zero = []
up_to (suc n) = up_to n ++ suc n ∷ []

-- a member's squad at a gameweek
abbrev pub squad_at : League → ℕ → ℕ → List (ℕ × Position)
squad_at league member g = players_in (held_at league g) member

-- whose gameweeks are asked for a member at a gameweek, for all his gameweeks, and for all members
abbrev pub asked_at : League → ℕ → ℕ → List (ℕ × ℕ)
asked_at league member g = map (λ (one : ℕ × Position). (one.0, g)) (squad_at league member g)

abbrev pub asked_for : League → ℕ → ℕ → List (ℕ × ℕ)
asked_for league locked member = flat_map (asked_at league member) (up_to locked)

abbrev pub asked_of_all : League → ℕ → List (ℕ × ℕ)
asked_of_all league locked = flat_map (asked_for league locked) (up_to league.members)

-- points that are no further from 0 than a million; nobody's are
abbrev pub near : ℤ → ℤ
near points = if int_lt points (negsuc 999999) then negsuc 999999 else (if int_lt (pos 1000000) points then pos 1000000 else points)

-- the points of a player in a gameweek, as they were told
abbrev pub is_told : ℕ → ℕ → Told → Bool
is_told player g one = one.player == player && one.gw == g

abbrev pub told_in : List Told → ℕ → ℕ → ℤ
told_in told player g = option_map_or (λ (one : Told). one.points) (find (λ (one : Told). is_told player g one) told) (pos 0)

abbrev pub points_in : List Told → ℕ → ℕ → ℤ
points_in told player g = near (told_in told player g)

-- the row of a player at a gameweek, and a member's fifteen
abbrev pub row_at : List Told → ℕ → ℕ × Position → Row
row_at told g one = (one.0, one.1, points_in told one.0 g)

abbrev pub rows_at : League → List Told → ℕ → ℕ → List Row
rows_at league told member g = map (row_at told g) (squad_at league member g)

-- a member's score at a gameweek is the total of the best legal eleven of his fifteen, and his total is the sum of his scores
-- over so many gameweeks
abbrev pub IsTotal : League → List Told → ℕ → ℕ → ℤ → Type 0
IsTotal league told member zero total = total ≡ pos 0
IsTotal league told member (suc g) total =
    (before : ℤ) × (score : ℤ) × IsTotal league told member g before × IsGreatestTotal (rows_at league told member (suc g)) score × (total ≡ before +ℤ score)

-- the totals of so many members
abbrev pub AreTotals : League → List Told → ℕ → ℕ → List Total → Type 0
AreTotals league told locked zero totals = totals ≡ []
AreTotals league told locked (suc member) totals =
    (before : List Total) × (total : ℤ) × AreTotals league told locked member before × IsTotal league told (suc member) locked total
    × (totals ≡ before ++ (record { member = suc member; total = total }) ∷ [])

-- a member's rank is one more than the number of members with a greater total
abbrev pub rank_in : List Total → Total → ℕ
rank_in totals one = count_by (λ (other : Total). int_lt one.total other.total) totals + 1

-- the table: a row for each member, by rank, then member
abbrev pub row_text : ℕ → ℕ → ℤ → List ℕ
row_text rank member total = decimal rank ++ (codes "," ++ (decimal member ++ (codes "," ++ (signed_decimal total ++ 10 ∷ []))))

abbrev pub row_if : List Total → ℕ → Total → List ℕ
row_if totals rank one = if rank_in totals one == rank then row_text rank one.member one.total else []

abbrev pub rows_of_rank : List Total → ℕ → List ℕ
rows_of_rank totals rank = flat_map (row_if totals rank) totals

abbrev pub table_text : ℕ → List Total → List ℕ
table_text members totals = codes "rank,member,total" ++ 10 ∷ flat_map (rows_of_rank totals) (up_to members)

-- a text is the table of a league over so many gameweeks, by the points that were told
abbrev pub IsTableText : League → ℕ → List Told → List ℕ → Type 0
IsTableText league locked told text = (totals : List Total) × AreTotals league told locked league.members totals × (text ≡ table_text league.members totals)
