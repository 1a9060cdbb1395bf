-- What the team of a gameweek follows from: the team before it, and the gameweek's transfers.
use Rattle.std.specs.Prelude.{◌≡◌, ◌≤◌, ℕ, zero, suc, ◌+◌, ◌-◌, Bool, false, ◌&&◌, ◌==◌, List, [], ◌∷◌, map, Option, Some, None, nat_le, if◌then◌else◌}
use Rattle.std.specs.List.{list_all}
use Rattle.std.specs.Option.{option_or}
use Rattle.fpl_base.specs.Keeping.{Map}
use Rattle.rule_book.specs.declared.transfers.Sale.{Sale}
use Rattle.rule_book.specs.EntryRecords.{after_sales, earned_for, paid_for, price_among}
use Rattle.rule_book.specs.History.{Holding, is_free_hit}
use Rattle.rule_book.specs.HistoryRules.{times}
use Rattle.stored_records.specs.declared.entry_told.RecordedTeam.{RecordedTeam}
use Rattle.stored_records.specs.declared.sequels.Traded.{Traded}
use Rattle.stored_records.specs.EntryTold.{team_told, sale_told, is_first_of}

-- the team, unless it is one of a free hit
abbrev pub lasting : Option RecordedTeam → Option RecordedTeam
lasting None = None
lasting (Some t) = if is_free_hit t.chip then None else Some t

-- the last team before a gameweek without a free hit
abbrev pub last_before : (ℕ → Option RecordedTeam) → ℕ → Option RecordedTeam
last_before teams zero = None
last_before teams (suc g) = option_or (lasting (teams g)) (last_before teams g)

abbrev pub base_told : Map → ℕ → ℕ → Option RecordedTeam
base_told m e g = last_before (team_told m e) g

-- the transfers from a number on, as long as they are there, at most so many
abbrev pub and_then_those : Option Sale → List Sale → List Sale
and_then_those None sales = []
and_then_those (Some sale) sales = sale ∷ sales

unfoldable pub sales_from : (ℕ → Option Sale) → ℕ → ℕ → List Sale
sales_from told zero n = []
sales_from told (suc k) n = and_then_those (told n) (sales_from told k (n + 1))

-- a gameweek has at most so many transfers
abbrev pub most_sales : ℕ
most_sales = 1000

-- those of a gameweek that are numbered 1, 2, 3 and so on
abbrev pub sales_told : Map → ℕ → ℕ → List Sale
sales_told m e g = sales_from (sale_told m e g) most_sales 1

-- a transfer in front of others, where there is one
abbrev pub and_those : Option Sale → List Sale → List Sale
and_those None sales = sales
and_those (Some sale) sales = sale ∷ sales

-- the transfers that stand under so many numbers, from one on
unfoldable pub sales_under : (ℕ → Option Sale) → ℕ → ℕ → List Sale
sales_under told zero n = []
sales_under told (suc k) n = and_those (told n) (sales_under told k (n + 1))

-- a record has one of so many numbers, from 0 on
abbrev pub all_numbers : ℕ
all_numbers = 4294967296

-- those that stand under a number or a greater one
abbrev pub sales_since : (ℕ → Option Sale) → ℕ → List Sale
sales_since told n = sales_under told (all_numbers - n) n

-- all transfers of a gameweek in the order of their numbers, whatever these are
abbrev pub every_sale_told : Map → ℕ → ℕ → List Sale
every_sale_told m e g = sales_since (sale_told m e g) 0

-- the players of a team with their prices
abbrev pub holdings_told : List (ℕ × ℕ) → List Holding
holdings_told picks = map (λ pick. record { player = pick.0; bought = pick.1 }) picks

-- a player stands as often in the one as in the other, at the same price
abbrev pub is_alike : List Holding → List Holding → ℕ → Bool
is_alike a b p =
    times p (map (λ k. k.player) a) == times p (map (λ k. k.player) b) && price_among p a == price_among p b

-- each of these players does
abbrev pub are_alike : List Holding → List Holding → List Holding → Bool
are_alike a b squad = list_all (λ k. is_alike a b k.player) squad

-- the same players at the same prices, in any order
abbrev pub are_same_holdings : List Holding → List Holding → Bool
are_same_holdings a b = are_alike a b a && are_alike a b b

-- The bank of a first team is what 1000, the transfers and some first prices give, whose sum is from 450 to 1000.
abbrev pub opens_with : ℕ → ℕ → ℕ → Bool
opens_with paid earned bank = nat_le (bank + paid + 450) (1000 + earned) && nat_le (1000 + earned) (bank + paid + 1000)

-- A later team has the players, the prices and the bank that the team before it and the transfers give.
abbrev pub follows : Option RecordedTeam → List Sale → RecordedTeam → Bool
follows None sales t = false
follows (Some base) sales t =
    are_same_holdings (holdings_told t.picks) (after_sales sales (holdings_told base.picks))
    && t.bank + paid_for sales == base.bank + earned_for sales

-- the same by what records tell of the entry
abbrev pub follows_told : Map → ℕ → ℕ → RecordedTeam → Bool
follows_told m e g t = follows (base_told m e g) (every_sale_told m e g) t

-- the team of a gameweek follows from what its entry has before it
abbrev pub goes_on : Map → ℕ → ℕ → RecordedTeam → Bool
goes_on m e g t =
    if is_first_of m e g then opens_with (paid_for (every_sale_told m e g)) (earned_for (every_sale_told m e g)) t.bank else follows_told m e g t

-- a pick after a transfer: the incomer takes the place of the one who goes
abbrev pub pick_after : Sale → ℕ × ℕ → ℕ × ℕ
pick_after s pick = if pick.0 == s.out then (s.into, s.bought) else pick

-- a transfer is made, where there is one: its incomer takes the place of the one who goes, and it is paid and earned
abbrev pub Trades : Option Sale → Traded → Traded → Type 0
Trades None old new = new ≡ old
Trades (Some s) old new =
    (new.picks ≡ map (pick_after s) old.picks) × (new.paid ≡ old.paid + s.bought) × (new.earned ≡ old.earned + s.sold)

-- what transfers make of these players, and what they pay and earn
pub record IsTraded (sales : List Sale) (picks : List (ℕ × ℕ)) (t : Traded) : Type 0 where
  pub squad : holdings_told t.picks ≡ after_sales sales (holdings_told picks)
  pub paid : t.paid ≡ paid_for sales
  pub earned : t.earned ≡ earned_for sales

-- what they pay and earn is of no more transfers than there are numbers, each at 1,000,000.0 million at most
pub record HasFew (t : Traded) : Type 0 where
  pub paid : t.paid ≤ 42949672960000000
  pub earned : t.earned ≤ 42949672960000000

-- a team has the players, the prices and the bank that come of the one before it
abbrev pub comes_of : Traded → ℕ → RecordedTeam → Bool
comes_of traded bank t =
    are_same_holdings (holdings_told t.picks) (holdings_told traded.picks) && t.bank + traded.paid == bank + traded.earned
