-- A draft league, by what was done in it.
use Rattle.std.specs.Prelude.{◌≡◌, ◌+◌, ◌-◌, ◌*◌, ◌/◌, ◌%◌, ◌≤◌, ◌==◌, ◌++◌, ◌∷◌, [], ℕ, Bool, true, List, Option, Some, None, length, filter, nat_le, nat_lt, if◌then◌else◌}
use Rattle.fpl_base.specs.declared.kinds.Position.{Position}
use Rattle.draft_league.specs.Holdings.{HasOneOwnerEach, count_in, number_in}
use Rattle.draft_league.specs.Waivers.{AreSettled, Table, after, after_all, first_order}
use Rattle.draft_league.specs.declared.kinds.Bid.{Bid}
use Rattle.draft_league.specs.declared.kinds.Holding.{Holding}
use Rattle.draft_league.specs.declared.kinds.Outcome.{Outcome}

-- how many members there are, the picks in their order, the outcomes of all waivers in theirs, the bids that wait in the order
-- in which they were made, and the last gameweek whose waivers were settled
pub record League : Type 0 where
  pub members : ℕ
  pub drafted : List Holding
  pub past : List Outcome
  pub waiting : List Bid
  pub last : Option ℕ

-- the member to whom a pick belongs, counted from 0: the turns go up the members, then down, then up again
abbrev pub turn : ℕ → ℕ → ℕ
turn members pick =
    let place = pick % members in
    if (pick / members) % 2 == 0 then place + 1 else members - place

-- each member has fifteen picks
abbrev pub is_over : League → Bool
is_over league = nat_le (15 * league.members) (length league.drafted)

-- how things stand as the waivers begin, and now
abbrev pub first_table : League → Table
first_table league = record { held = league.drafted; order = first_order league.members }

abbrev pub table_now : League → Table
table_now league = after_all (first_table league) league.past

abbrev pub held_now : League → List Holding
held_now league = (table_now league).held

-- how things stand behind the waivers of gameweeks up to this one, and before later ones
abbrev pub table_by : ℕ → Table → List Outcome → Table
table_by g table [] = table
table_by g table (outcome ∷ outcomes) = if nat_le outcome.gw g then table_by g (after table outcome) outcomes else table

abbrev pub held_at : League → ℕ → List Holding
held_at league g = (table_by g (first_table league) league.past).held

-- the bids for a gameweek, and those for later ones
abbrev pub bids_for : ℕ → List Bid → List Bid
bids_for g bids = filter (λ (bid : Bid). bid.gw == g) bids

abbrev pub bids_after : ℕ → List Bid → List Bid
bids_after g bids = filter (λ (bid : Bid). nat_lt g bid.gw) bids

-- a league in which nothing was done
abbrev pub founded : ℕ → League
founded members = record { members = members; drafted = []; past = []; waiting = []; last = None }

-- it behind a pick, and behind a bid
abbrev pub picked : League → ℕ → Position → League
picked league player position =
    record league { drafted = league.drafted ++ (record { player = player; position = position; member = turn league.members (length league.drafted) }) ∷ [] }

abbrev pub bidden : League → Bid → League
bidden league bid = record league { waiting = league.waiting ++ bid ∷ [] }

-- it behind the waivers of a gameweek, which had these outcomes: bids for gameweeks that they passed over are dropped
abbrev pub waived : League → ℕ → List Outcome → League
waived league g outcomes = record league { past = league.past ++ outcomes; waiting = bids_after g league.waiting; last = Some g }

-- these are the outcomes of the waivers of a gameweek
abbrev pub AreOutcomes : League → ℕ → List Outcome → Type 0
AreOutcomes league g outcomes = AreSettled (table_now league) (bids_for g league.waiting) outcomes

-- nobody has two owners, now and at any gameweek
pub record HasOneOwners (league : League) : Type 0 where
  pub now : HasOneOwnerEach (held_now league)
  pub at : (g : ℕ) → HasOneOwnerEach (held_at league g)

-- once the draft is over each member owns two goalkeepers, five defenders, five midfielders and three forwards, at every
-- gameweek
abbrev pub HasFullSquads : League → Type 0
HasFullSquads league =
    is_over league ≡ true → (g member : ℕ) (position : Position) → 1 ≤ member → member ≤ league.members
    → count_in (held_at league g) member position ≡ number_in position
