-- The team and transfer records of one entry: those of a history, and those that are lawful.
use Rattle.std.specs.Prelude.{◌≡◌, ◌<◌, ◌≤◌, ◌+◌, ℕ, true, false, List, [], ◌∷◌, ◌++◌, map, length, Option, Some, None, ◌==◌, if◌then◌else◌, nat_lt, not, ◌&&◌, ⊤}
use Rattle.std.specs.List.{AllByRecursion as Each}
use Rattle.fpl_base.specs.declared.kinds.Position.{Position}
use Rattle.rule_book.specs.declared.team.Team.{Team}
use Rattle.rule_book.specs.declared.transfers.Sale.{Sale}
use Rattle.rule_book.specs.Batch.{AreDifferent}
use Rattle.rule_book.specs.History.{Holding, Deed, Event, is_touched, is_free_hit}
use Rattle.rule_book.specs.History.Deed.{First, Swap, Lineup, Play, Cancel}
use Rattle.rule_book.specs.HistoryRules.{times}
use Rattle.rule_book.specs.HistoryTeam.{IsTeam, holdings}

-- the team record of a gameweek
abbrev pub team_recorded : List (ℕ × Team) → ℕ → Option Team
team_recorded [] g = None
team_recorded (t ∷ teams) g = if t.0 == g then Some t.1 else team_recorded teams g

-- the transfers of a gameweek, in order
abbrev pub sales_in : List (ℕ × Sale) → ℕ → List Sale
sales_in [] g = []
sales_in (s ∷ sales) g = if s.0 == g then s.1 ∷ sales_in sales g else sales_in sales g

-- the transfer that a deed makes
abbrev pub sold_by : Deed → List Sale
sold_by (First squad captain vice) = []
sold_by (Swap sale) = sale ∷ []
sold_by (Lineup players captain vice) = []
sold_by (Play chip) = []
sold_by Cancel = []

-- the transfers of a history's gameweek, in order
abbrev pub sold_in : List Event → ℕ → List Sale
sold_in [] g = []
sold_in (e ∷ h) g = if e.gw == g then sold_by e.deed ++ sold_in h g else sold_in h g

-- a gameweek has a team record exactly where something was done in it, and then its team
abbrev pub TeamRecorded : (ℕ → Position) → List Event → ℕ → Option Team → Type 0
TeamRecorded position h g None = is_touched h g ≡ false
TeamRecorded position h g (Some t) = (is_touched h g ≡ true) × IsTeam position h g t

-- the records of a history
pub record HasRecords (position : ℕ → Position) (h : List Event) (teams : List (ℕ × Team)) (sales : List (ℕ × Sale)) : Type 0 where
  pub teams_told : (g : ℕ) → TeamRecorded position h g (team_recorded teams g)
  pub sales_told : (g : ℕ) → sales_in sales g ≡ sold_in h g

-- the gameweeks of team records rise, from 1 on
abbrev pub AllLater : ℕ → List (ℕ × Team) → Type 0
AllLater g [] = ⊤
AllLater g (t ∷ teams) = (g < t.0) × AllLater g teams

abbrev pub TeamsRise : List (ℕ × Team) → Type 0
TeamsRise [] = ⊤
TeamsRise (t ∷ teams) = AllLater t.0 teams × TeamsRise teams

-- the first gameweek
abbrev pub first_of : List (ℕ × Team) → Option ℕ
first_of [] = None
first_of (t ∷ teams) = Some t.0

-- what prices can be
abbrev pub IsPriced : Holding → Type 0
IsPriced k = (30 ≤ k.bought) × (k.bought ≤ 200)

abbrev pub IsPricedSale : Sale → Type 0
IsPricedSale s = (30 ≤ s.sold) × (s.sold ≤ 200) × (30 ≤ s.bought) × (s.bought ≤ 200)

-- fifteen different players at prices that can be
pub record IsFifteen (t : Team) : Type 0 where
  pub different : AreDifferent t.picks
  pub priced : Each IsPriced (holdings t.picks)

-- a holding after a sale: the incomer takes the place of the one who goes
abbrev pub swapped : Sale → Holding → Holding
swapped s k = if k.player == s.out then record { player = s.into; bought = s.bought } else k

-- holdings after transfers
abbrev pub after_sales : List Sale → List Holding → List Holding
after_sales [] squad = squad
after_sales (s ∷ sales) squad = after_sales sales (map (swapped s) squad)

-- the price of a held player
abbrev pub price_among : ℕ → List Holding → ℕ
price_among p [] = 0
price_among p (k ∷ squad) = if k.player == p then k.bought else price_among p squad

-- what transfers pay and earn
abbrev pub paid_for : List Sale → ℕ
paid_for [] = 0
paid_for (s ∷ sales) = s.bought + paid_for sales

abbrev pub earned_for : List Sale → ℕ
earned_for [] = 0
earned_for (s ∷ sales) = s.sold + earned_for sales

-- the same players at the same prices, in any order
pub record SameHoldings (a b : List Holding) : Type 0 where
  pub players : (p : ℕ) → times p (map (λ k. k.player) a) ≡ times p (map (λ k. k.player) b)
  pub prices : (p : ℕ) → price_among p a ≡ price_among p b

-- the last team record before a gameweek without a free hit
abbrev pub later_of : Option Team → Option Team → Option Team
later_of None y = y
later_of (Some x) y = Some x

abbrev pub team_before : List (ℕ × Team) → ℕ → Option Team
team_before [] g = None
team_before (t ∷ teams) g = later_of (team_before teams g) (if nat_lt t.0 g && not (is_free_hit t.1.chip) then Some t.1 else None)

-- The team of a later gameweek has the players, the prices and the bank that the team before it and the gameweek's
-- transfers give; that of the first has the bank that 1000, its transfers and some first prices give.
abbrev pub FollowsOn : Option Team → List Sale → Team → Type 0
FollowsOn None sales t = (first : ℕ) × (450 ≤ first) × (first ≤ 1000) × (t.bank + (first + paid_for sales) ≡ 1000 + earned_for sales)
FollowsOn (Some base) sales t = SameHoldings (holdings t.picks) (after_sales sales (holdings base.picks)) × (t.bank + paid_for sales ≡ base.bank + earned_for sales)

abbrev pub RecordFollows : Option Team → List Sale → Option Team → Type 0
RecordFollows base sales None = sales ≡ []
RecordFollows base sales (Some t) = FollowsOn base sales t × IsFifteen t

-- the first gameweek has no free hit
abbrev pub FirstIsBare : List (ℕ × Team) → Type 0
FirstIsBare [] = ⊤
FirstIsBare (t ∷ teams) = is_free_hit t.1.chip ≡ false

-- records of one entry whose teams follow from one another, with at most a thousand transfers in a gameweek
pub record AreEntryRecords (first : Option ℕ) (teams : List (ℕ × Team)) (sales : List (ℕ × Sale)) : Type 0 where
  pub starts : first_of teams ≡ first
  pub from_one : AllLater 0 teams
  pub rise : TeamsRise teams
  pub bare : FirstIsBare teams
  pub follow : (g : ℕ) → RecordFollows (team_before teams g) (sales_in sales g) (team_recorded teams g)
  pub priced : Each (λ s. IsPricedSale s.1) sales
  pub few : (g : ℕ) → length (sales_in sales g) ≤ 1000
