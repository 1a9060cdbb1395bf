-- The team of the week.
use Rattle.std.specs.Prelude.{◌≡◌, ℕ, ℤ, ◌≤ℤ◌, Bool, true, ◌&&◌, ◌||◌, ◌==◌, nat_lt, List, map, AllPairs, IsPermutation}
use Rattle.std.specs.List.{list_any}
use Rattle.fpl_base.specs.declared.kinds.Position.{Position}
use Rattle.fpl_base.specs.declared.kinds.Position.TheVariants.{Keeper, Defender, Midfielder, Forward}
use Rattle.rule_book.specs.Positions.{is_defender, is_midfielder, is_forward}
use Rattle.squad_rules.specs.Elevens.{Row, chosen, count_in, IsLegalEleven, total_points, is_better, IsEven, comes_no_later}
use Rattle.squad_rules.specs.declared.dream.Dream.{Dream}

-- the choice of these players
abbrev pub is_among : List ℕ → ℕ → Bool
is_among players player = list_any (λ other. other == player) players

-- goalkeepers stand first, then defenders, midfielders, forwards
abbrev pub place_of : Position → ℕ
place_of Keeper = 0
place_of Defender = 1
place_of Midfielder = 2
place_of Forward = 3

-- one row stands before another: by position, within one the better first
abbrev pub stands_before : Row → Row → Bool
stands_before one other =
    nat_lt (place_of one.1) (place_of other.1) || (place_of one.1 == place_of other.1 && is_better one other)

-- the players of an eleven in their order: by position, then by points downwards, then by id
pub record StandInOrder (eleven : List Row) (players : List ℕ) : Type 0 where
  pub standing : List Row
  pub same : IsPermutation eleven standing
  pub in_order : AllPairs (λ one other. stands_before one other ≡ true) standing
  pub named : players ≡ map (λ row. row.0) standing

-- a total is the greatest that a legal eleven of the rows has
pub record IsGreatestTotal (rows : List Row) (total : ℤ) : Type 0 where
  pub choice : ℕ → Bool
  pub legal : IsLegalEleven (chosen choice rows)
  pub reached : total_points (chosen choice rows) ≡ total
  pub greatest : (other : ℕ → Bool) → IsLegalEleven (chosen other rows) → total_points (chosen other rows) ≤ℤ total

-- The team of the week of rows: a legal eleven, even, with its players in order, of which no legal eleven has a greater
-- total; of all legal elevens with that total none has an earlier formation.
pub record IsDream (rows : List Row) (dream : Dream) : Type 0 where
  pub legal : IsLegalEleven (chosen (is_among dream.players) rows)
  pub even : IsEven (is_among dream.players) rows
  pub in_order : StandInOrder (chosen (is_among dream.players) rows) dream.players
  pub defenders : dream.defenders ≡ count_in is_defender (chosen (is_among dream.players) rows)
  pub midfielders : dream.midfielders ≡ count_in is_midfielder (chosen (is_among dream.players) rows)
  pub forwards : dream.forwards ≡ count_in is_forward (chosen (is_among dream.players) rows)
  pub total : dream.total ≡ total_points (chosen (is_among dream.players) rows)
  pub greatest : (other : ℕ → Bool) → IsLegalEleven (chosen other rows) → total_points (chosen other rows) ≤ℤ dream.total
  pub first : (other : ℕ → Bool) → IsLegalEleven (chosen other rows) → total_points (chosen other rows) ≡ dream.total → comes_no_later (chosen (is_among dream.players) rows) (chosen other rows) ≡ true

-- no choice of the rows is a legal eleven
abbrev pub HasNoEleven : List Row → Type 0
HasNoEleven rows = (choice : ℕ → Bool) → ¬ IsLegalEleven (chosen choice rows)
