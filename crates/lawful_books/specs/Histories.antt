-- When the records of a history are lawful: what each deed of it asks by itself, and what a gameweek's transfers and chip
-- do.
use Rattle.std.specs.Prelude.{◌≡◌, ◌≤◌, ◌≢◌, ℕ, true, false, List, map, None, ⊤}
use Rattle.std.specs.List.{AllByRecursion as Each}
use Rattle.fpl_base.specs.declared.kinds.Chip.TheVariants.{None as NoChip}
use Rattle.fpl_base.specs.declared.kinds.Position.{Position}
use Rattle.rule_book.specs.declared.transfers.Sale.{Sale}
use Rattle.rule_book.specs.EntryCalls.{starts_in, transfer_limit}
use Rattle.rule_book.specs.EntryRecords.{IsPriced, IsPricedSale}
use Rattle.rule_book.specs.History.{Deed, Event, Holding, chip_at}
use Rattle.rule_book.specs.History.Deed.{First, Swap, Lineup, Play, Cancel}
use Rattle.rule_book.specs.HistorySquad.{sum_bought}
use Rattle.rule_book.specs.HistoryTransfers.{is_same_chip, makes_free, swaps_in, used_before}
use Rattle.rule_book.specs.Lineups.{lineup_refusal}
use Rattle.rule_book.specs.PlayerFigures.{position_in}
use Rattle.rule_book.specs.Squads.{has_squad_shape}
use Rattle.season_book.specs.Book.{Facts}
use Rattle.season_book.specs.Commands.{has_player}

-- the positions of players
abbrev pub positions : Facts → List ℕ → List Position
positions facts players = map (position_in facts.players) players

-- these players are there
abbrev pub AreThere : Facts → List ℕ → Type 0
AreThere facts players = Each (λ p. has_player facts p ≡ true) players

-- fifteen players in their slots are a squad of the right shape in a legal lineup
pub record AreLinedUp (facts : Facts) (players : List ℕ) (captain vice : ℕ) : Type 0 where
  pub there : AreThere facts players
  pub shape : has_squad_shape (positions facts players) ≡ true
  pub lineup : lineup_refusal (positions facts players) captain vice ≡ None

-- a first squad, at prices that can be, for 45.0 to 100.0 million
pub record IsLawfulFirst (facts : Facts) (squad : List Holding) (captain vice : ℕ) : Type 0 where
  pub lined_up : AreLinedUp facts (map (λ k. k.player) squad) captain vice
  pub priced : Each IsPriced squad
  pub least : 450 ≤ sum_bought squad
  pub most : sum_bought squad ≤ 1000

-- a transfer of two players who are there, at one position, at prices that can be
pub record IsLawfulSwap (facts : Facts) (sale : Sale) : Type 0 where
  pub out : has_player facts sale.out ≡ true
  pub into : has_player facts sale.into ≡ true
  pub position : position_in facts.players sale.into ≡ position_in facts.players sale.out
  pub priced : IsPricedSale sale

-- what a deed asks by itself
abbrev pub IsLawfulDeed : Facts → Deed → Type 0
IsLawfulDeed facts (First squad captain vice) = IsLawfulFirst facts squad captain vice
IsLawfulDeed facts (Swap sale) = IsLawfulSwap facts sale
IsLawfulDeed facts (Lineup players captain vice) = AreLinedUp facts players captain vice
IsLawfulDeed facts (Play chip) = chip ≢ NoChip
IsLawfulDeed facts Cancel = ⊤

-- The records of a history are lawful by these facts: each deed is lawful by itself, in a gameweek from 1 on; a gameweek
-- has no more transfers than its chip allows, none of the chips that make them free where it is the first, and no chip
-- that an earlier one has, a wildcard in the same half.
pub record IsLawfulHistory (facts : Facts) (h : List Event) : Type 0 where
  pub deeds : Each (λ (e : Event). IsLawfulDeed facts e.deed) h
  pub gameweeks : Each (λ (e : Event). 1 ≤ e.gw) h
  pub limits : (g : ℕ) → swaps_in h g ≤ transfer_limit (starts_in h g) (chip_at h g)
  pub late : (g : ℕ) → starts_in h g ≡ true → makes_free (chip_at h g) ≡ false
  pub once : (g : ℕ) → is_same_chip (chip_at h g) NoChip ≡ false → used_before facts.calendar.split (chip_at h) (chip_at h g) g ≡ None
