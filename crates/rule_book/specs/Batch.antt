-- A batch of transfers: all who go are sold, then all who come are bought. It is judged by the team before it.
use Rattle.std.specs.Prelude.{◌≡◌, ◌≢◌, ℕ, ◌+◌, ◌-◌, Bool, true, false, not, ◌||◌, ◌==◌, List, [], ◌∷◌, ◌++◌, map, find, count_by, sum_by, Option, Some, None, IsSome, nat_lt, if◌then◌else◌, All, AllPairs}
use Rattle.std.specs.List.{list_any}
use Rattle.std.specs.Option.{option_map, option_map_or}
use Rattle.fpl_base.specs.declared.kinds.Position.{Position}
use Rattle.fpl_base.specs.declared.kinds.Position.TheVariants.{Keeper, Defender, Midfielder, Forward}
use Rattle.fpl_base.specs.declared.rule.Rule.{Rule}
use Rattle.fpl_base.specs.declared.rule.Rule.TheVariants as rule
use Rattle.rule_book.specs.declared.player.Player.{Player}
use Rattle.rule_book.specs.declared.team.Pick.{Pick}
use Rattle.rule_book.specs.declared.team.Team.{Team}
use Rattle.rule_book.specs.declared.transfers.Swap.{Swap}
use Rattle.rule_book.specs.declared.transfers.Sale.{Sale}
use Rattle.rule_book.specs.Players.{player_of}
use Rattle.rule_book.specs.Prices.{selling_price}
use Rattle.rule_book.specs.Refusals.{first_broken}

-- a player's present price and club; 0 where he is not there
abbrev pub price_of : List Player → ℕ → ℕ
price_of players id = option_map_or (λ p. p.price) (player_of players id) 0

abbrev pub club_of : List Player → ℕ → ℕ
club_of players id = option_map_or (λ p. p.club) (player_of players id) 0

-- a player is marked as gone
abbrev pub is_gone : List Player → ℕ → Bool
is_gone players id = option_map_or (λ p. p.gone) (player_of players id) false

-- two positions are the same
abbrev pub is_same_position : Position → Position → Bool
is_same_position Keeper Keeper = true
is_same_position Defender Defender = true
is_same_position Midfielder Midfielder = true
is_same_position Forward Forward = true
is_same_position _ _ = false

-- a player plays at a position
abbrev pub plays_at : List Player → Position → ℕ → Bool
plays_at players position id = option_map_or (λ p. is_same_position p.position position) (player_of players id) false

-- the team has a player
abbrev pub is_held : List Pick → ℕ → Bool
is_held picks id = list_any (λ k. k.player == id) picks

-- the team's pick of a player, if it has him
abbrev pub pick_of : List Pick → ℕ → Option Pick
pick_of picks id = find (λ k. k.player == id) picks

-- the price at which the team bought a player; 0 where it does not have him
abbrev pub bought_for : List Pick → ℕ → ℕ
bought_for picks id = option_map_or (λ k. k.bought) (pick_of picks id) 0

-- the sale that a swap makes: the one who goes at his selling price, and the incomer at his present price
abbrev pub sale_of : List Player → List Pick → Swap → Sale
sale_of players picks swap = record {
  out = swap.out;
  into = swap.into;
  sold = selling_price (bought_for picks swap.out) (price_of players swap.out);
  bought = price_of players swap.into;
}

-- the sales that a batch makes
abbrev pub sales_of : List Player → List Pick → List Swap → List Sale
sales_of players picks swaps = map (sale_of players picks) swaps

-- a slot after a sale: the incomer has the place of the one who goes
abbrev pub place_taken : Pick → Sale → Pick
place_taken pick sale = record { player = sale.into; position = pick.position; bought = sale.bought }

-- a slot after all sales of a batch
abbrev pub pick_after : List Sale → Pick → Pick
pick_after sales pick = option_map_or (place_taken pick) (find (λ s. s.out == pick.player) sales) pick

-- the fifteen slots after a batch
abbrev pub picks_after : List Sale → List Pick → List Pick
picks_after sales picks = map (pick_after sales) picks

-- what the sales of a batch earn, and what they pay
abbrev pub earned_by : List Sale → ℕ
earned_by sales = sum_by (λ s. s.sold) sales

abbrev pub paid_by : List Sale → ℕ
paid_by sales = sum_by (λ s. s.bought) sales

-- a team after a batch: the slots of captain and vice-captain stay, and so does the chip
pub record IsTeamAfter (sales : List Sale) (old new : Team) : Type 0 where
  pub picks : new.picks ≡ picks_after sales old.picks
  pub captain : new.captain ≡ old.captain
  pub vice : new.vice ≡ old.vice
  pub bank : new.bank + paid_by sales ≡ old.bank + earned_by sales
  pub chip : new.chip ≡ old.chip

-- the first player that swaps name who is barred, or whom an earlier swap names
abbrev pub first_barred : (Swap → ℕ) → (ℕ → Bool) → List Swap → List Swap → Option ℕ
first_barred named barred before [] = None
first_barred named barred before (swap ∷ swaps) =
    if barred (named swap) || list_any (λ earlier. named earlier == named swap) before then Some (named swap)
    else first_barred named barred (before ++ swap ∷ []) swaps

-- the first who goes and is not in the team, or has gone in an earlier swap
abbrev pub first_not_held : List Pick → List Swap → Option ℕ
first_not_held picks swaps = first_barred (λ s. s.out) (λ id. not (is_held picks id)) [] swaps

-- the first incomer who is in the team before the batch, or came in an earlier swap
abbrev pub first_held : List Pick → List Swap → Option ℕ
first_held picks swaps = first_barred (λ s. s.into) (is_held picks) [] swaps

-- the first incomer who is marked as gone
abbrev pub first_gone : List Player → List Swap → Option ℕ
first_gone players swaps = option_map (λ s. s.into) (find (λ s. is_gone players s.into) swaps)

-- an incomer plays at another position than the one who goes
abbrev pub moves_position : List Player → List Pick → Swap → Bool
moves_position players picks swap = option_map_or (λ k. not (plays_at players k.position swap.into)) (pick_of picks swap.out) false

-- the first incomer who does
abbrev pub first_moved : List Player → List Pick → List Swap → Option ℕ
first_moved players picks swaps = option_map (λ s. s.into) (find (moves_position players picks) swaps)

-- more than three of a team play for a player's club
abbrev pub is_club_full : List Player → List Pick → ℕ → Bool
is_club_full players picks id = nat_lt 3 (count_by (λ k. club_of players k.player == club_of players id) picks)

-- the club of the first incomer whose club has more than three after the batch
abbrev pub first_full_club : List Player → List Pick → List Swap → Option ℕ
first_full_club players after swaps = option_map (λ s. club_of players s.into) (find (λ s. is_club_full players after s.into) swaps)

-- by how much the money is short, if it is
abbrev pub shortage : ℕ → List Sale → Option ℕ
shortage bank sales = if nat_lt (bank + earned_by sales) (paid_by sales) then Some (paid_by sales - (bank + earned_by sales)) else None

-- why a batch is refused, if it is
abbrev pub batch_refusal : List Player → Team → List Swap → Option Rule
batch_refusal players team swaps =
    let sales = sales_of players team.picks swaps in
    first_broken (
    option_map rule.NotHeld (first_not_held team.picks swaps)
    ∷ option_map rule.Held (first_held team.picks swaps)
    ∷ option_map rule.PlayerGone (first_gone players swaps)
    ∷ option_map rule.PositionSwap (first_moved players team.picks swaps)
    ∷ option_map rule.ClubLimit (first_full_club players (picks_after sales team.picks) swaps)
    ∷ option_map rule.OverBudget (shortage team.bank sales)
    ∷ [])

-- each incomer is a player of the season
abbrev pub AreIncomersThere : List Player → List Swap → Type 0
AreIncomersThere players swaps = All (λ s. IsSome (player_of players s.into)) swaps

-- Swap by swap: each one who goes is in the team as he goes, and his incomer is not; then the next swap is made.
abbrev pub place_given : Sale → Pick → Pick
place_given sale pick = if pick.player == sale.out then place_taken pick sale else pick

abbrev pub GoOneByOne : List Sale → List Pick → List Pick → Type 0
GoOneByOne [] old new = new ≡ old
GoOneByOne (sale ∷ sales) old new = (is_held old sale.out ≡ true) × (is_held old sale.into ≡ false) × GoOneByOne sales (map (place_given sale) old) new

-- no player stands in two slots
abbrev pub AreDifferent : List Pick → Type 0
AreDifferent picks = AllPairs (λ one other. one.player ≢ other.player) picks

-- each pick has the position of its player, by the facts or by the players
abbrev pub ArePlaced : (ℕ → Position) → List Pick → Type 0
ArePlaced position picks = All (λ k. k.position ≡ position k.player) picks

abbrev pub HavePositions : (ℕ → Position) → List Player → Type 0
HavePositions position players = All (λ p. p.position ≡ position p.id) players
