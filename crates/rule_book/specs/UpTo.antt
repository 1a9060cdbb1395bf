-- What a manager did in the gameweeks up to one.
use Rattle.std.specs.Prelude.{◌≡◌, ◌<◌, ℕ, List, [], ◌∷◌, Option, Some, None, filter, nat_le, ⊤}
use Rattle.rule_book.specs.History.{Event}

-- the events of gameweeks up to k, in order
abbrev pub up_to : ℕ → List Event → List Event
up_to k h = filter (λ e. nat_le e.gw k) h

-- two histories have the same events of gameweeks up to k, in order
abbrev pub AgreeUpTo : ℕ → List Event → List Event → Type 0
AgreeUpTo k h h2 = up_to k h ≡ up_to k h2

-- the gameweek of the first event, if there is one
abbrev pub start_of : List Event → Option ℕ
start_of [] = None
start_of (e ∷ h) = Some e.gw

-- each event is of a gameweek after k
abbrev pub AllAfter : ℕ → List Event → Type 0
AllAfter k [] = ⊤
AllAfter k (e ∷ h) = (k < e.gw) × AllAfter k h
