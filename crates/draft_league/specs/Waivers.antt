-- Waivers: in which order bids come, and what becomes of them.
use Rattle.std.specs.Prelude.{◌≡◌, ◌==◌, ◌++◌, ◌∷◌, [], ℕ, zero, suc, Bool, not, List, Option, Some, None, find, filter, map, if◌then◌else◌}
use Rattle.std.specs.List.{list_any}
use Rattle.draft_league.specs.Holdings.{exchanged, owner_in}
use Rattle.draft_league.specs.declared.kinds.Bid.{Bid}
use Rattle.draft_league.specs.declared.kinds.End.{End}
use Rattle.draft_league.specs.declared.kinds.End.TheVariants as ended
use Rattle.draft_league.specs.declared.kinds.Holding.{Holding}
use Rattle.draft_league.specs.declared.kinds.Outcome.{Outcome}

-- how things stand at a moment of the waivers: who owns whom, and the order of the members
pub record Table : Type 0 where
  pub held : List Holding
  pub order : List ℕ

-- the first order of so many members is from the last to the first
abbrev pub first_order : ℕ → List ℕ
first_order zero = []
first_order (suc n) = suc n ∷ first_order n

-- a member moves to the end of the order
abbrev pub to_end : ℕ → List ℕ → List ℕ
to_end member order = filter (λ other. not (other == member)) order ++ member ∷ []

-- what becomes of a bid, by who owns the player who is to come and the one who is to go: it is granted where the former is
-- free and the latter the member's own
abbrev pub end_by : ℕ → Option ℕ → Option ℕ → End
end_by member (Some other) out = ended.Owned
end_by member None (Some owner) = if owner == member then ended.Granted else ended.Gone
end_by member None None = ended.Gone

abbrev pub end_of : List Holding → Bid → End
end_of held bid = end_by bid.member (owner_in held bid.into) (owner_in held bid.out)

-- a bid with its end, and the bid that an outcome settled
abbrev pub settled_as : Bid → End → Outcome
settled_as bid end = record { gw = bid.gw; member = bid.member; into = bid.into; out = bid.out; end = end }

abbrev pub bid_in : Outcome → Bid
bid_in outcome = record { gw = outcome.gw; member = outcome.member; into = outcome.into; out = outcome.out }

-- a granted bid exchanges the two players and moves the member to the end of the order; nothing else changes either
abbrev pub after_end : Table → Outcome → End → Table
after_end table outcome ended.Granted = record { held = exchanged outcome.out outcome.into table.held; order = to_end outcome.member table.order }
after_end table outcome ended.Owned = table
after_end table outcome ended.Gone = table

abbrev pub after : Table → Outcome → Table
after table outcome = after_end table outcome outcome.end

abbrev pub after_all : Table → List Outcome → Table
after_all table [] = table
after_all table (outcome ∷ outcomes) = after_all (after table outcome) outcomes

-- a member's bids, and whether he has one
abbrev pub bids_of : ℕ → List Bid → List Bid
bids_of member bids = filter (λ (bid : Bid). bid.member == member) bids

abbrev pub has_bid : List Bid → ℕ → Bool
has_bid bids member = list_any (λ (bid : Bid). bid.member == member) bids

-- the first member of the order who has one of these bids
abbrev pub first_with : List Bid → List ℕ → Option ℕ
first_with bids order = find (has_bid bids) order

-- these are the outcomes of these bids. Each bid is among them once, and the bids of each member stand in the order in which
-- they were made; the member of each outcome is the first of the order of that moment who has a bid left; and its end is that
-- of its bid at that moment
pub record AreSettled (table : Table) (bids : List Bid) (outcomes : List Outcome) : Type 0 where
  pub each : (member : ℕ) → bids_of member (map bid_in outcomes) ≡ bids_of member bids
  pub turns : (earlier later : List Outcome) (one : Outcome) → outcomes ≡ earlier ++ one ∷ later
      → first_with (map bid_in (one ∷ later)) (after_all table earlier).order ≡ Some one.member
  pub ends : (earlier later : List Outcome) (one : Outcome) → outcomes ≡ earlier ++ one ∷ later
      → one.end ≡ end_of (after_all table earlier).held (bid_in one)
