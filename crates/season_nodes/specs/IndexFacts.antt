-- Who holds a player in a locked gameweek.
use Rattle.std.specs.Prelude.{◌≡◌, ◌⊎◌, ◌↔◌, ℕ, true, List, [], if◌then◌else◌}
use Rattle.std.specs.BTreeMap.{is_at}
use Rattle.std.specs.Map.{lookup}
use Rattle.std.specs.Option.{unwrap_or}
use Rattle.std.specs.Ordering.{nat_cmp, ordering_then}
use Rattle.std.specs.declared.cmp.Ordering.{Ordering}
use Rattle.rescore_graph.specs.Graph.{Among}
use Rattle.season_nodes.specs.declared.nodes.Node.TheVariants as node
use Rattle.season_nodes.specs.Season.{SeasonFacts, fifteen_of, is_live}

-- by gameweek, and then by player
abbrev pub pair_cmp : ℕ × ℕ → ℕ × ℕ → Ordering
pair_cmp x y = ordering_then (nat_cmp x.0 y.0) (nat_cmp x.1 y.1)

-- an index, as contracts see it
abbrev pub IndexRows : Type 0
IndexRows = List ((ℕ × ℕ) × List ℕ)

-- the entries that hold a player in a gameweek
abbrev pub holders_in : IndexRows → ℕ → ℕ → List ℕ
holders_in rows p g = unwrap_or (lookup (is_at (pair_cmp (g, p))) rows) []

-- the index with these entries in place of those that hold a player in a gameweek
abbrev pub HasHolders : IndexRows → IndexRows → ℕ → ℕ → List ℕ → Type 0
HasHolders old new p g entries = (q h : ℕ) → holders_in new q h ≡ (if is_at (pair_cmp (g, p)) (h, q) then entries else holders_in old q h)

-- the index with some holdings more: P p g e says that entry e holds player p in gameweek g
abbrev pub HasMore : IndexRows → IndexRows → (ℕ → ℕ → ℕ → Type 0) → Type 0
HasMore old new P = (p g e : ℕ) → Among (holders_in new p g) e ↔ (Among (holders_in old p g) e ⊎ P p g e)

-- an entry holds a player in a locked gameweek: its gameweek is live, and the player is in its team there
abbrev pub Holds : SeasonFacts → ℕ → ℕ → ℕ → Type 0
Holds b p g e = (is_live b (node.TeamGw e g) ≡ true) × Among (fifteen_of b e g) p

-- the index tells of each player and gameweek exactly the entries that hold him there, and of a gameweek that is not
-- locked none
abbrev pub IsIndex : SeasonFacts → (ℕ → ℕ → List ℕ) → Type 0
IsIndex b holders = (p g e : ℕ) → Among (holders p g) e ↔ Holds b p g e
