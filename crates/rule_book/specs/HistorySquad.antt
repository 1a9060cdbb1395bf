-- The squad of a history, its prices, its order and its money, counted over the events that count.
use Rattle.std.specs.Prelude.{ℕ, ◌+◌, Bool, true, false, ◌||◌, List, [], ◌∷◌, ◌++◌, map, length, ◌==◌, if◌then◌else◌}
use Rattle.std.specs.List.{flat_map}
use Rattle.fpl_base.specs.declared.kinds.Position.{Position}
use Rattle.rule_book.specs.declared.team.Pick.{Pick}
use Rattle.rule_book.specs.History.{Holding, Deed, Event, last_of}
use Rattle.rule_book.specs.History.Deed.{First, Swap, Lineup, Play, Cancel}

-- the prices at which a squad has a player
abbrev pub prices_among : ℕ → List Holding → List ℕ
prices_among p squad = flat_map (λ k. if k.player == p then k.bought ∷ [] else []) squad

-- the prices at which a deed brings a player in
abbrev pub brought_by : ℕ → Deed → List ℕ
brought_by p (First squad captain vice) = prices_among p squad
brought_by p (Swap sale) = if sale.into == p then sale.bought ∷ [] else []
brought_by p (Lineup players captain vice) = []
brought_by p (Play chip) = []
brought_by p Cancel = []

-- the prices at which a deed takes a player out
abbrev pub taken_by : ℕ → Deed → List ℕ
taken_by p (First squad captain vice) = []
taken_by p (Swap sale) = if sale.out == p then sale.sold ∷ [] else []
taken_by p (Lineup players captain vice) = []
taken_by p (Play chip) = []
taken_by p Cancel = []

-- how often events bring a player in, and take him out
abbrev pub ins : ℕ → List Event → ℕ
ins p es = length (flat_map (λ e. brought_by p e.deed) es)

abbrev pub outs : ℕ → List Event → ℕ
outs p es = length (flat_map (λ e. taken_by p e.deed) es)

-- a player is in the squad where he was brought in once more than he was taken out
abbrev pub in_squad : List Event → ℕ → Bool
in_squad es p = ins p es == (outs p es + 1)

-- his price at the last event that brought him in
abbrev pub bought_at : List Event → ℕ → ℕ
bought_at es p = last_of 0 (flat_map (λ e. brought_by p e.deed) es)

-- the order that a deed names
abbrev pub named_by : Deed → List (List ℕ)
named_by (First squad captain vice) = map (λ k. k.player) squad ∷ []
named_by (Swap sale) = []
named_by (Lineup players captain vice) = players ∷ []
named_by (Play chip) = []
named_by Cancel = []

abbrev pub names_order : Deed → Bool
names_order (First squad captain vice) = true
names_order (Swap sale) = false
names_order (Lineup players captain vice) = true
names_order (Play chip) = false
names_order Cancel = false

abbrev pub has_order : List Event → Bool
has_order [] = false
has_order (e ∷ es) = names_order e.deed || has_order es

-- the events that follow the last one that names an order
abbrev pub after_order : List Event → List Event
after_order [] = []
after_order (e ∷ es) = if names_order e.deed || has_order es then after_order es else e ∷ es

-- who stands for p after a deed: his incomer where it takes him out
abbrev pub follow_one : Deed → ℕ → ℕ
follow_one (First squad captain vice) p = p
follow_one (Swap sale) p = if p == sale.out then sale.into else p
follow_one (Lineup players captain vice) p = p
follow_one (Play chip) p = p
follow_one Cancel p = p

-- his incomer, that one's incomer and so on
abbrev pub follow : List Event → ℕ → ℕ
follow [] p = p
follow (e ∷ es) p = follow es (follow_one e.deed p)

-- the order: that of the last First or Lineup, each player followed through the swaps after it
abbrev pub order_of : List Event → List ℕ
order_of es = map (follow (after_order es)) (last_of [] (flat_map (λ e. named_by e.deed) es))

-- the slots of captain and vice-captain, as the last First or Lineup names them
abbrev pub armbands_by : Deed → List (ℕ × ℕ)
armbands_by (First squad captain vice) = (captain, vice) ∷ []
armbands_by (Swap sale) = []
armbands_by (Lineup players captain vice) = (captain, vice) ∷ []
armbands_by (Play chip) = []
armbands_by Cancel = []

abbrev pub armbands_of : List Event → ℕ × ℕ
armbands_of es = last_of (0, 0) (flat_map (λ e. armbands_by e.deed) es)

-- what a squad cost
abbrev pub sum_bought : List Holding → ℕ
sum_bought [] = 0
sum_bought (k ∷ squad) = k.bought + sum_bought squad

-- what a deed pays, and what it earns
abbrev pub paid_by : Deed → ℕ
paid_by (First squad captain vice) = sum_bought squad
paid_by (Swap sale) = sale.bought
paid_by (Lineup players captain vice) = 0
paid_by (Play chip) = 0
paid_by Cancel = 0

abbrev pub earned_by : Deed → ℕ
earned_by (First squad captain vice) = 0
earned_by (Swap sale) = sale.sold
earned_by (Lineup players captain vice) = 0
earned_by (Play chip) = 0
earned_by Cancel = 0

-- what events pay together, and what they earn
abbrev pub spent : List Event → ℕ
spent [] = 0
spent (e ∷ es) = paid_by e.deed + spent es

abbrev pub earned : List Event → ℕ
earned [] = 0
earned (e ∷ es) = earned_by e.deed + earned es

-- the price at which the player that a deed sells was bought
abbrev pub given_by : List Event → Deed → ℕ
given_by es (First squad captain vice) = 0
given_by es (Swap sale) = bought_at es sale.out
given_by es (Lineup players captain vice) = 0
given_by es (Play chip) = 0
given_by es Cancel = 0

-- the sum of these prices over events, after those before them
abbrev pub given_up : List Event → List Event → ℕ
given_up before [] = 0
given_up before (e ∷ es) = given_by before e.deed + given_up (before ++ e ∷ []) es

-- the squad by slot, each player with his price
abbrev pub holdings_of : List Event → List Holding
holdings_of es = map (λ p. record { player = p; bought = bought_at es p }) (order_of es)

-- the same with each player's position
abbrev pub picks_of : (ℕ → Position) → List Event → List Pick
picks_of position es = map (λ p. record { player = p; position = position p; bought = bought_at es p }) (order_of es)
