-- How bids are settled one after another.
use Rattle.std.specs.Prelude.{◌≡◌, ◌==◌, ◌++◌, ◌∷◌, ℕ, Bool, true, false, List, Some, length}
use Rattle.std.specs.List.{list_any}
use Rattle.draft_league.specs.Leagues.{AreOutcomes, League, bids_after, first_table, held_now, waived}
use Rattle.draft_league.specs.Kept.{AreFair}
use Rattle.draft_league.specs.Waivers.{first_with, has_bid}
use Rattle.draft_league.specs.declared.draft.Settled.{Settled}
use Rattle.draft_league.specs.declared.kinds.Bid.{Bid}
use Rattle.draft_league.specs.declared.kinds.End.{End}
use Rattle.draft_league.specs.declared.kinds.End.TheVariants as ended

-- a bid is granted
abbrev pub is_granted : End → Bool
is_granted ended.Granted = true
is_granted ended.Owned = false
is_granted ended.Gone = false

-- a member has a turn in the order
abbrev pub HasTurn : List ℕ → ℕ → Type 0
HasTurn order member = list_any (λ other. other == member) order ≡ true

-- at this place stands a member's first bid
pub record IsFirst (bids : List Bid) (member place : ℕ) : Type 0 where
  pub front : List Bid
  pub bid : Bid
  pub rest : List Bid
  pub parts : bids ≡ front ++ bid ∷ rest
  pub place_is : length front ≡ place
  pub own : bid.member ≡ member
  pub none_before : has_bid front member ≡ false

-- at this place stands the bid that is settled next: the first one of its member, who is the first of the order that has one
pub record IsNext (order : List ℕ) (left : List Bid) (place : ℕ) : Type 0 where
  pub member : ℕ
  pub first : IsFirst left member place
  pub turn : first_with left order ≡ Some member

-- what the waivers of a gameweek leave
pub record IsSettled (league : League) (g : ℕ) (settled : Settled) : Type 0 where
  pub outcomes : AreOutcomes league g settled.outcomes.items
  pub past : settled.past.items ≡ league.past ++ settled.outcomes.items
  pub waiting : settled.waiting.items ≡ bids_after g league.waiting
  pub held : settled.held.items ≡ held_now (waived league g settled.outcomes.items)
  pub fair : AreFair (first_table league) settled.past.items
