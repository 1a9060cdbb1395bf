-- What refuses a manager's calls, by what he did before, and what each call that is accepted adds to his history.
use Rattle.std.specs.Prelude.{◌+◌, ◌-◌, ℕ, Bool, not, ◌&&◌, ◌||◌, ◌==◌, List, [], ◌∷◌, length, map, find, Option, Some, None, nat_le, nat_lt, if◌then◌else◌, false}
use Rattle.std.specs.List.{flat_map}
use Rattle.std.specs.Option.{option_map, option_map_or, option_to_list}
use Rattle.fpl_base.specs.declared.kinds.Chip.{Chip}
use Rattle.fpl_base.specs.declared.kinds.Chip.TheVariants.{None as NoChip}
use Rattle.fpl_base.specs.declared.rule.Rule.{Rule}
use Rattle.fpl_base.specs.declared.rule.Rule.TheVariants as rule
use Rattle.rule_book.specs.declared.player.Player.{Player}
use Rattle.rule_book.specs.declared.team.Pick.{Pick}
use Rattle.rule_book.specs.declared.team.Team.{Team}
use Rattle.rule_book.specs.declared.transfers.Swap.{Swap}
use Rattle.rule_book.specs.Batch.{sales_of, is_gone, club_of, is_held, pick_of, batch_refusal}
use Rattle.rule_book.specs.History.{Deed, Event, chip_at}
use Rattle.rule_book.specs.History.Deed.{First, Swap as Swapped, Lineup, Play, Cancel}
use Rattle.rule_book.specs.HistoryRules.{can_cancel, is_started}
use Rattle.rule_book.specs.HistorySquad.{sum_bought}
use Rattle.rule_book.specs.HistoryTeam.{holdings}
use Rattle.rule_book.specs.HistoryTransfers.{makes_free, is_same_chip, swaps_in, used_before}
use Rattle.rule_book.specs.Lineups.{lineup_refusal}
use Rattle.rule_book.specs.PlayerFigures.{position_in}
use Rattle.rule_book.specs.Players.{player_of}
use Rattle.rule_book.specs.Refusals.{first_broken, unless}
use Rattle.rule_book.specs.Repeats.{first_repeat}
use Rattle.rule_book.specs.Squads.{positions_of, squad_refusal}
use Rattle.rule_book.specs.TeamOfHistory.{team_of, told_team}
use Rattle.rule_book.specs.UpTo.{start_of}

-- where every gameweek is locked a call is refused; else it is judged in the next one
abbrev pub in_next : Option ℕ → (ℕ → Option Rule) → Option Rule
in_next None judged = Some rule.SeasonOver
in_next (Some g) judged = judged g

-- by the team that stands, if one does
abbrev pub of_team : (Team → Option Rule) → Option Team → Option Rule
of_team judged None = None
of_team judged (Some t) = judged t

-- the slot in which a player stands, from 1 on; 0 where he is not among them
abbrev pub slot_from : ℕ → List ℕ → ℕ → ℕ
slot_from n [] p = 0
slot_from n (q ∷ players) p = if q == p then n else slot_from (n + 1) players p

abbrev pub slot_of : List ℕ → ℕ → ℕ
slot_of players p = slot_from 1 players p

-- a player bought at his present price
abbrev pub pick_from : Player → Pick
pick_from p = record { player = p.id; position = p.position; bought = p.price }

-- the picks of a first squad, and their clubs
abbrev pub picks_from : List Player → List ℕ → List Pick
picks_from players squad = flat_map (λ id. option_to_list (option_map pick_from (player_of players id))) squad

abbrev pub clubs_of : List Player → List ℕ → List ℕ
clubs_of players squad = map (club_of players) squad

-- what picks cost
abbrev pub cost_of : List Pick → ℕ
cost_of picks = sum_bought (holdings picks)

-- the cost is over 100.0 million
abbrev pub over_budget : ℕ → Option Rule
over_budget cost = if nat_lt 1000 cost then Some (rule.OverBudget (cost - 1000)) else None

-- why fifteen players are refused as a first squad
abbrev pub first_refusal : List Player → List ℕ → ℕ → ℕ → Option Rule
first_refusal players squad captain vice =
    let picks = picks_from players squad in
    first_broken (
    option_map rule.PlayerGone (find (is_gone players) squad)
    ∷ squad_refusal picks (clubs_of players squad)
    ∷ over_budget (cost_of picks)
    ∷ lineup_refusal (positions_of picks) captain vice
    ∷ [])

-- why a manager's first squad is refused
abbrev pub register_refusal : Bool → List Player → List ℕ → ℕ → ℕ → Option Rule
register_refusal registered players squad captain vice =
    first_broken (unless (not registered) rule.Registered ∷ first_refusal players squad captain vice ∷ [])

-- so many transfers are made in a gameweek at most
abbrev pub transfer_limit : Bool → Chip → ℕ
transfer_limit first chip = if first || makes_free chip then 1000 else 20

-- why a batch is refused, by the transfers that the gameweek had, its limit and the team that stands
abbrev pub transfer_refusal : Bool → ℕ → ℕ → Option Team → List Player → List Swap → Option Rule
transfer_refusal registered made limit team players swaps =
    first_broken (
    unless registered rule.NotRegistered
    ∷ unless (nat_le (made + length swaps) limit) rule.TransferLimit
    ∷ of_team (λ t. batch_refusal players t swaps) team
    ∷ [])

-- the first of the players whom the team does not have
abbrev pub first_stranger : List Pick → List ℕ → Option ℕ
first_stranger picks order = find (λ p. not (is_held picks p)) order

-- the picks of the players, in their order
abbrev pub lined_picks : List Pick → List ℕ → List Pick
lined_picks picks order = flat_map (λ p. option_to_list (pick_of picks p)) order

-- why an order of the fifteen is refused, by the team that stands
abbrev pub order_refusal : Team → List ℕ → ℕ → ℕ → Option Rule
order_refusal team order captain vice =
    first_broken (
    option_map rule.NotHeld (first_stranger team.picks order)
    ∷ option_map rule.Twice (first_repeat order)
    ∷ lineup_refusal (positions_of (lined_picks team.picks order)) captain vice
    ∷ [])

abbrev pub lineup_call_refusal : Bool → Option Team → List ℕ → ℕ → ℕ → Option Rule
lineup_call_refusal registered team order captain vice =
    first_broken (unless registered rule.NotRegistered ∷ of_team (λ t. order_refusal t order captain vice) team ∷ [])

-- Why a chip is refused: a wildcard or a free hit in the first gameweek, any where one stands, and one that was played
-- in the gameweek `used`.
abbrev pub play_refusal : Bool → Bool → Chip → Option ℕ → Chip → Option Rule
play_refusal registered first standing used chip =
    first_broken (
    unless registered rule.NotRegistered
    ∷ unless (not (first && makes_free chip)) rule.ChipEarly
    ∷ unless (is_same_chip standing NoChip) rule.ChipPlayed
    ∷ option_map rule.ChipUsed used
    ∷ [])

-- why a chip is not taken back: none stands, or one that stays
abbrev pub cancel_refusal : Bool → Chip → Option Rule
cancel_refusal registered standing =
    first_broken (
    unless registered rule.NotRegistered
    ∷ unless (not (is_same_chip standing NoChip)) rule.NoChip
    ∷ unless (can_cancel standing) rule.ChipFixed
    ∷ [])

-- The same by a history, in the gameweek that is next.

-- the first gameweek is this one
abbrev pub starts_in : List Event → ℕ → Bool
starts_in h g = option_map_or (λ s. s == g) (start_of h) false

-- why a first squad is refused; captain and vice-captain are players
abbrev pub squad_refused : List Player → List Event → List ℕ → ℕ → ℕ → Option Rule
squad_refused players h squad captain vice =
    register_refusal (is_started h) players squad (slot_of squad captain) (slot_of squad vice)

-- why a batch of transfers is refused
abbrev pub batch_refused : List Player → List Event → List Swap → ℕ → Option Rule
batch_refused players h swaps g =
    transfer_refusal (is_started h) (swaps_in h g) (transfer_limit (starts_in h g) (chip_at h g))
    (told_team (position_in players) h g) players swaps

-- why an order of the fifteen is refused; captain and vice-captain are players
abbrev pub lineup_refused : List Player → List Event → List ℕ → ℕ → ℕ → ℕ → Option Rule
lineup_refused players h order captain vice g =
    lineup_call_refusal (is_started h) (told_team (position_in players) h g) order (slot_of order captain) (slot_of order vice)

-- why a chip is refused, in a season whose first half ends with gameweek `split`
abbrev pub chip_refused : List Event → ℕ → Chip → ℕ → Option Rule
chip_refused h split chip g =
    play_refusal (is_started h) (starts_in h g) (chip_at h g) (used_before split (chip_at h) chip g) chip

-- why a chip is not taken back
abbrev pub cancel_refused : List Event → ℕ → Option Rule
cancel_refused h g = cancel_refusal (is_started h) (chip_at h g)

-- What an accepted call adds.

-- the first squad, each player bought at his present price
abbrev pub squad_deeds : List Player → List ℕ → ℕ → ℕ → List Deed
squad_deeds players squad captain vice =
    First (holdings (picks_from players squad)) (slot_of squad captain) (slot_of squad vice) ∷ []

-- one transfer for each swap, at the prices of the moment
abbrev pub batch_deeds : List Player → List Event → List Swap → ℕ → List Deed
batch_deeds players h swaps g = map Swapped (sales_of players (team_of (position_in players) h g).picks swaps)

-- an order of the fifteen
abbrev pub lineup_deeds : List ℕ → ℕ → ℕ → List Deed
lineup_deeds order captain vice = Lineup order (slot_of order captain) (slot_of order vice) ∷ []

-- a chip that is played, or taken back
abbrev pub chip_deeds : Chip → List Deed
chip_deeds chip = Play chip ∷ []

abbrev pub cancel_deeds : List Deed
cancel_deeds = Cancel ∷ []
