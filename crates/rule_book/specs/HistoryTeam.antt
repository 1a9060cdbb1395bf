-- The team that a history has in a gameweek, and its laws.
use Rattle.std.specs.Prelude.{◌≡◌, ◌+◌, ℕ, Bool, true, false, ◌||◌, List, [], ◌∷◌, map, Option, Some, None, ◌==◌, nat_le, ⊤}
use Rattle.fpl_base.specs.declared.kinds.Position.{Position}
use Rattle.rule_book.specs.declared.team.Pick.{Pick}
use Rattle.rule_book.specs.declared.team.Team.{Team}
use Rattle.rule_book.specs.History.{Holding, Event, chip_at, kept}
use Rattle.rule_book.specs.HistorySquad.{armbands_of, spent, earned, sum_bought, in_squad, given_up, picks_of}

-- a team is that of a gameweek of a history: order, prices, positions, armbands, bank and chip
pub record IsTeam (position : ℕ → Position) (h : List Event) (g : ℕ) (t : Team) : Type 0 where
  pub picks : t.picks ≡ picks_of position (kept h g)
  pub captain : t.captain ≡ (armbands_of (kept h g)).0
  pub vice : t.vice ≡ (armbands_of (kept h g)).1
  pub bank : t.bank + spent (kept h g) ≡ 1000 + earned (kept h g)
  pub chip : t.chip ≡ chip_at h g

-- the first gameweek is g or before it
abbrev pub is_begun : List Event → ℕ → Bool
is_begun [] g = false
is_begun (e ∷ h) g = nat_le e.gw g

-- what a history says of the team of a gameweek: there is none exactly before the first
abbrev pub TeamTold : (ℕ → Position) → List Event → ℕ → Option Team → Type 0
TeamTold position h g None = is_begun h g ≡ false
TeamTold position h g (Some t) = (is_begun h g ≡ true) × IsTeam position h g t

-- the players of picks, with their prices
abbrev pub holding_of : Pick → Holding
holding_of k = record { player = k.player; bought = k.bought }

abbrev pub holdings : List Pick → List Holding
holdings picks = map holding_of picks

abbrev pub is_held : ℕ → List Holding → Bool
is_held p [] = false
is_held p (k ∷ squad) = (k.player == p) || is_held p squad

-- the players are those counted in, and the money balances: what is in the bank and what the fifteen cost is 1000 and
-- what the kept swaps gained, each the price sold at less the price bought at
pub record Balances (h : List Event) (g : ℕ) (t : Team) : Type 0 where
  pub squad : (p : ℕ) → is_held p (holdings t.picks) ≡ in_squad (kept h g) p
  pub ledger : (t.bank + sum_bought (holdings t.picks)) + given_up [] (kept h g) ≡ 1000 + earned (kept h g)

abbrev pub TeamBalances : List Event → ℕ → Option Team → Type 0
TeamBalances h g None = ⊤
TeamBalances h g (Some t) = Balances h g t
