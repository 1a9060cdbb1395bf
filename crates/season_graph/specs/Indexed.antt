-- What locks of gameweeks do to an index.
use Rattle.std.specs.Prelude.{◌≡◌, ◌≤◌, ◌<◌, ◌↔◌, ℕ, List, map}
use Rattle.rule_book.specs.declared.team.Pick.{Pick}
use Rattle.rescore_graph.specs.Graph.{Among}
use Rattle.season_graph.specs.Changes.{DifferInLocks}
use Rattle.season_nodes.specs.IndexFacts.{HasMore, Holds, IndexRows, IsIndex, holders_in}
use Rattle.season_nodes.specs.Season.{SeasonFacts}

-- it has more exactly that an entry holds the players of these picks in a gameweek
abbrev pub PicksIndexed : ℕ → ℕ → List Pick → IndexRows → IndexRows → Type 0
PicksIndexed e g picks old new = HasMore old new (λ p h x. (x ≡ e) × (h ≡ g) × Among (map (λ pick. pick.player) picks) p)

module _ (d : SeasonFacts) where
  -- whom an entry holds in a gameweek
  abbrev pub TeamIndexed : ℕ → ℕ → IndexRows → IndexRows → Type 0
  TeamIndexed e g old new = HasMore old new (λ p h x. (x ≡ e) × (h ≡ g) × Holds d p h x)

  -- whom an entry holds in the locked gameweeks behind the first ones
  abbrev pub EntryIndexed : ℕ → ℕ → IndexRows → IndexRows → Type 0
  EntryIndexed e first old new = HasMore old new (λ p h x. (x ≡ e) × (first < h) × Holds d p h x)

  -- and whom each entry does
  abbrev pub LocksIndexed : ℕ → IndexRows → IndexRows → Type 0
  LocksIndexed first old new = HasMore old new (λ p h x. (first < h) × Holds d p h x)

  -- an index that was right for facts of before, from which these differ in such locks, is right for these
  abbrev pub IndexFollowed : ℕ → IndexRows → IndexRows → Type 0
  IndexFollowed first old new = (before : SeasonFacts) → DifferInLocks before d first → IsIndex before (holders_in old) → IsIndex d (holders_in new)

-- who holds whom in the first gameweeks is as it was
abbrev pub IndexKept : ℕ → IndexRows → IndexRows → Type 0
IndexKept first old new = (p g e : ℕ) → g ≤ first → Among (holders_in new p g) e ↔ Among (holders_in old p g) e
