-- The leagues of a season, and the leagues of each entry beside them.
use Rattle.std.specs.Prelude.{◌≡◌, ◌<◌, ◌≤◌, ◌++◌, ℕ, true, false, IsTrue, List, [], ◌∷◌, length, filter, AllPairs, nat_lt, slice_index_or, IsSomeAnd, ◌==◌, if◌then◌else◌}
use Rattle.std.specs.List.{list_any}
use Rattle.rule_book.specs.declared.league.LeagueKind.{LeagueKind}
use Rattle.rule_book.specs.Entries.{entry_in}
use Rattle.rule_book.specs.HeadToHead.{IsDraw}
use Rattle.rule_book.specs.LeagueCalls.{is_drawn, is_head, is_member, leagues_of, most_leagues, most_members}
use Rattle.rule_book.specs.Leagues.{LeagueFacts}

-- numbers that rise, so that each stands once
abbrev pub Rise : List ℕ → Type 0
Rise numbers = AllPairs (λ a b. a < b) numbers

-- a league by its parts
abbrev pub league_of : LeagueKind → List ℕ → List ℕ → ℕ → ℕ → List ℕ → List ℕ → LeagueFacts
league_of kind name code start creator members order = record {
  kind = kind;
  name = name;
  code = code;
  start = start;
  creator = creator;
  members = members;
  order = order;
}

-- a league can have this order: it is a head-to-head league, and the order is a draw of its members
pub record CanDraw (order : List ℕ) (league : LeagueFacts) : Type 0 where
  pub head : is_head league.kind ≡ true
  pub draw : IsDraw order league.members

-- the league of a number is there, and can have this order
abbrev pub CanDrawIn : List LeagueFacts → ℕ → List ℕ → Type 0
CanDrawIn leagues l order = IsSomeAnd (entry_in leagues l) (CanDraw order)

-- an entry can enter a league: it is no member, the league was not drawn and has room
pub record CanEnter (league : LeagueFacts) (e : ℕ) : Type 0 where
  pub new : is_member league e ≡ false
  pub open_still : is_drawn league ≡ false
  pub room : length league.members < most_members league.kind

-- a league has members who ascend, at least one and no more than its kind can have, and where it was drawn, it can have
-- its order
pub record IsLeague (league : LeagueFacts) : Type 0 where
  pub rise : Rise league.members
  pub some : 1 ≤ length league.members
  pub few : length league.members ≤ most_members league.kind
  pub drawn : IsTrue (is_drawn league) → CanDraw league.order league

-- ascending numbers with one more, in its place
abbrev pub with_number : ℕ → List ℕ → List ℕ
with_number n numbers = filter (λ m. nat_lt m n) numbers ++ n ∷ filter (λ m. nat_lt n m) numbers

-- the numbers in the row of an entry, which stands at the place of its number; none where it has no row
abbrev pub row_of : List (List ℕ) → ℕ → List ℕ
row_of rows e = slice_index_or rows e []

-- the row of an entry when these entered a league
abbrev pub row_entered : List ℕ → ℕ → List (List ℕ) → ℕ → List ℕ
row_entered members l rows e = if list_any (λ m. m == e) members then with_number l (row_of rows e) else row_of rows e

-- there are not too many leagues, and the row of each entry has the leagues that it is in
pub record AreBooked (leagues : List LeagueFacts) (rows : List (List ℕ)) : Type 0 where
  pub few : length leagues ≤ most_leagues
  pub told : (e : ℕ) → row_of rows e ≡ leagues_of leagues e
