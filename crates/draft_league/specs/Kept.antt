-- What holds of every draft league.
use Rattle.std.specs.Prelude.{◌≡◌, ◌*◌, ◌≤◌, ℕ, false, List, [], ◌∷◌, length}
use Rattle.std.specs.List.{AllByRecursion as Each}
use Rattle.fpl_base.specs.declared.kinds.Position.{Position}
use Rattle.draft_league.specs.Holdings.{HasOneOwnerEach, count_in, number_in}
use Rattle.draft_league.specs.Leagues.{League, first_table, held_now, is_over}
use Rattle.draft_league.specs.Waivers.{Table, after, bid_in, end_of}
use Rattle.draft_league.specs.declared.kinds.Bid.{Bid}
use Rattle.draft_league.specs.declared.kinds.Holding.{Holding}
use Rattle.draft_league.specs.declared.kinds.Outcome.{Outcome}

-- each outcome ended as its bid had to at its moment
abbrev pub AreFair : Table → List Outcome → Type 0
AreFair table [] = Unit {0}
AreFair table (outcome ∷ outcomes) = (outcome.end ≡ end_of table.held (bid_in outcome)) × AreFair (after table outcome) outcomes

-- a number is that of a member
abbrev pub IsMember : ℕ → ℕ → Type 0
IsMember members member = (1 ≤ member) × (member ≤ members)

-- what holds of every league, and of the list of who owns whom now that is kept beside it
pub record IsLeague (league : League) (held : List Holding) : Type 0 where
  pub few : (2 ≤ league.members) × (league.members ≤ 8)
  pub picks : length league.drafted ≤ 15 * league.members
  pub owners : Each (λ (holding : Holding). IsMember league.members holding.member) league.drafted
  pub room : (member : ℕ) (position : Position) → count_in league.drafted member position ≤ number_in position
  pub apart : HasOneOwnerEach league.drafted
  pub held_is : held ≡ held_now league
  pub fair : AreFair (first_table league) league.past
  pub begun : is_over league ≡ false → league.past ≡ []
  pub bidders : Each (λ (bid : Bid). IsMember league.members bid.member) league.waiting
