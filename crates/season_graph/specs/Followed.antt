-- What a change of the books does to the cells of a season. For each change: which nodes are brought up to date; that
-- cells which were sound for the facts of before are sound for the books; and that, where nothing was dirty, dirty are
-- exactly the nodes which the change touches.
use Rattle.std.specs.Prelude.{◌≡◌, ◌≢◌, ◌-◌, ℕ, Bool, true, List, Option, is_some}
use Rattle.rule_book.specs.Calendar.{stands_in}
use Rattle.rule_book.specs.MatchFacts.{is_finished, line_of}
use Rattle.rescore_graph.specs.Graph.{Among}
use Rattle.rescore_graph.specs.States.{Puts}
use Rattle.rescore_graph.specs.Settling.{Remains, Settles, Sound}
use Rattle.season_nodes.specs.declared.books.Books.{Books}
use Rattle.season_nodes.specs.declared.nodes.Node.{Node}
use Rattle.season_nodes.specs.declared.nodes.Node.TheVariants as node
use Rattle.season_nodes.specs.BookFacts.{facts_of}
use Rattle.season_graph.specs.Changes.{AreAlike, DifferInLeague, DifferInLine, DifferInLocks, DifferInMark, DifferInPlace, DifferInPlayer, DifferInSheet, Follows, MarksTouched}
use Rattle.season_graph.specs.Evaluated.{IsEvaluated}
use Rattle.season_nodes.specs.Held.{SeasonRows, held}
use Rattle.season_nodes.specs.IndexFacts.{IsIndex}
use Rattle.season_nodes.specs.NodeOrder.{node_cmp}
use Rattle.season_graph.specs.Refreshed.{Refreshed, refreshed}
use Rattle.season_nodes.specs.Season.{SeasonFacts, IsSeason, is_live, season_graph}
use Rattle.season_graph.specs.Touched.{chosen_of, coming_nodes, league_nodes, line_nodes, lines_nodes, locked_nodes, mark_nodes, moved_nodes, others_of, presence_nodes, sheet_nodes}

-- whether a player's line in a fixture has a cell
abbrev pub had_line : SeasonRows → ℕ → ℕ → Bool
had_line cells f p = is_some (held cells (node.Line f p))

-- whether a node has one
abbrev pub had_cell : SeasonRows → Node → Bool
had_cell cells n = is_some (held cells n)

-- they are those of some facts, and evaluated
abbrev pub AreEvaluated : SeasonFacts → SeasonRows → Type 0
AreEvaluated facts cells = IsEvaluated facts (held cells)

-- they can be settled
abbrev pub AreSound : SeasonFacts → SeasonRows → Type 0
AreSound facts cells = Sound (season_graph facts) (held cells)

-- what settling them did, and what holds after it, also where memory ran out
abbrev pub HasSettled : SeasonFacts → SeasonRows → SeasonRows → List Node → Type 0
HasSettled facts old new done = Settles (season_graph facts) (held old) (held new) done

abbrev pub HasRemained : SeasonFacts → SeasonRows → SeasonRows → Type 0
HasRemained facts old new = Remains (season_graph facts) (held old) (held new)

module _ (b : Books) where
  -- these nodes were brought up to date, and no other cell changed
  abbrev pub Refreshes : List Node → SeasonRows → SeasonRows → Type 0
  Refreshes ns old new = Refreshed (is_live (facts_of b)) (Among ns) (held old) (held new)

  -- this node was
  abbrev pub RefreshesOne : Node → SeasonRows → SeasonRows → Type 0
  RefreshesOne n old new = Puts node_cmp (held old) (held new) n (refreshed (is_live (facts_of b) n) (held old n))

  -- cells that were sound for facts of before, from which the books differ in this way, are sound for the books
  abbrev pub FollowsFrom : (SeasonFacts → Type 0) → SeasonRows → SeasonRows → Type 0
  FollowsFrom differ old new =
      (before : SeasonFacts) → IsSeason before → IsSeason (facts_of b) → differ before → Follows before (facts_of b) (held old) (held new)

  -- and where nothing was dirty, dirty are exactly the nodes that are touched
  abbrev pub MarksFrom : (SeasonFacts → Type 0) → SeasonRows → SeasonRows → Type 0
  MarksFrom differ old new =
      (before : SeasonFacts) → IsSeason before → IsSeason (facts_of b) → differ before → MarksTouched before (facts_of b) (held old) (held new)

  -- a player's line in a fixture
  abbrev pub PresenceRefreshed : ℕ → ℕ → SeasonRows → SeasonRows → Type 0
  PresenceRefreshed f p old new = Refreshes (presence_nodes (facts_of b) f p) old new

  abbrev pub LineRefreshed : ℕ → ℕ → SeasonRows → SeasonRows → Type 0
  LineRefreshed f p old new = Refreshes (line_nodes (facts_of b) f p (had_line old f p)) old new

  abbrev pub LineFollowed : ℕ → ℕ → SeasonRows → SeasonRows → Type 0
  LineFollowed f p old new = FollowsFrom (λ before. DifferInLine before (facts_of b) f p) old new

  abbrev pub LineMarked : ℕ → ℕ → SeasonRows → SeasonRows → Type 0
  LineMarked f p old new =
      MarksFrom (λ before. DifferInLine before (facts_of b) f p × (line_of before.matches f p ≢ line_of b.matches.now f p)) old new

  -- the lines of some players in a fixture, and its mark if it is another
  abbrev pub LinesRefreshed : ℕ → List ℕ → SeasonRows → SeasonRows → Type 0
  LinesRefreshed f ps old new = Refreshes (lines_nodes (facts_of b) (had_line old f) f ps) old new

  abbrev pub SheetRefreshed : ℕ → List ℕ → Bool → SeasonRows → SeasonRows → Type 0
  SheetRefreshed f ps marked old new = Refreshes (sheet_nodes (facts_of b) (had_line old f) f ps marked) old new

  abbrev pub SheetFollowed : ℕ → List ℕ → Bool → SeasonRows → SeasonRows → Type 0
  SheetFollowed f ps marked old new = FollowsFrom (λ before. DifferInSheet before (facts_of b) f ps marked) old new

  -- the facts of before, where each of these lines is another, and the mark if it is said to be
  pub record IsOtherSheet (f : ℕ) (ps : List ℕ) (marked : Bool) (before : SeasonFacts) : Type 0 where
    pub differ : DifferInSheet before (facts_of b) f ps marked
    pub lines : (p : ℕ) → Among ps p → line_of before.matches f p ≢ line_of b.matches.now f p
    pub mark : marked ≡ true → is_finished before.matches f ≢ is_finished b.matches.now f

  abbrev pub SheetMarked : ℕ → List ℕ → Bool → SeasonRows → SeasonRows → Type 0
  SheetMarked f ps marked old new = MarksFrom (IsOtherSheet f ps marked) old new

  -- the mark of a fixture
  abbrev pub MarkRefreshed : ℕ → SeasonRows → SeasonRows → Type 0
  MarkRefreshed f old new = Refreshes (mark_nodes (facts_of b) f) old new

  abbrev pub MarkFollowed : ℕ → SeasonRows → SeasonRows → Type 0
  MarkFollowed f old new = FollowsFrom (λ before. DifferInMark before (facts_of b) f) old new

  abbrev pub MarkMarked : ℕ → SeasonRows → SeasonRows → Type 0
  MarkMarked f old new =
      MarksFrom (λ before. DifferInMark before (facts_of b) f × (is_finished before.matches f ≢ is_finished b.matches.now f)) old new

  -- where a fixture stands
  abbrev pub MoveRefreshed : ℕ → Option ℕ → Option ℕ → SeasonRows → SeasonRows → Type 0
  MoveRefreshed f from to old new = Refreshes (moved_nodes (facts_of b) f from to) old new

  -- the facts of before, where it stood in one place, and now stands in another
  pub record IsMove (f : ℕ) (from to : Option ℕ) (before : SeasonFacts) : Type 0 where
    pub differ : DifferInPlace before (facts_of b) f
    pub from_there : from ≡ stands_in before.calendar f
    pub to_there : to ≡ stands_in b.calendar.now f

  abbrev pub MoveFollowed : ℕ → Option ℕ → Option ℕ → SeasonRows → SeasonRows → Type 0
  MoveFollowed f from to old new = FollowsFrom (IsMove f from to) old new

  abbrev pub MoveMarked : ℕ → Option ℕ → Option ℕ → SeasonRows → SeasonRows → Type 0
  MoveMarked f from to old new = MarksFrom (λ before. IsMove f from to before × (from ≢ to)) old new

  -- a new player, where an index tells who holds him
  abbrev pub PlayerRefreshed : (ℕ → ℕ → List ℕ) → ℕ → SeasonRows → SeasonRows → Type 0
  PlayerRefreshed holders p old new = Refreshes (coming_nodes (facts_of b) holders p) old new

  abbrev pub PlayerFollowed : (ℕ → ℕ → List ℕ) → ℕ → SeasonRows → SeasonRows → Type 0
  PlayerFollowed holders p old new =
      IsIndex (facts_of b) holders → FollowsFrom (λ before. DifferInPlayer before (facts_of b) p) old new

  abbrev pub PlayerMarked : (ℕ → ℕ → List ℕ) → ℕ → SeasonRows → SeasonRows → Type 0
  PlayerMarked holders p old new =
      IsIndex (facts_of b) holders → MarksFrom (λ before. DifferInPlayer before (facts_of b) p) old new

  abbrev pub LocksRefreshed : ℕ → SeasonRows → SeasonRows → Type 0
  LocksRefreshed first old new = Refreshes (locked_nodes (facts_of b) first) old new

  abbrev pub LocksFollowed : ℕ → SeasonRows → SeasonRows → Type 0
  LocksFollowed first old new = FollowsFrom (λ before. DifferInLocks before (facts_of b) first) old new

  abbrev pub LocksMarked : ℕ → SeasonRows → SeasonRows → Type 0
  LocksMarked first old new = MarksFrom (λ before. DifferInLocks before (facts_of b) first) old new

  -- of these nodes those that come or go were brought up to date
  abbrev pub OthersRefreshed : List Node → SeasonRows → SeasonRows → Type 0
  OthersRefreshed ns old new = Refreshes (others_of (facts_of b) (had_cell old) ns) old new

  -- all of these nodes were, or those that come or go
  abbrev pub ChosenRefreshed : Bool → List Node → SeasonRows → SeasonRows → Type 0
  ChosenRefreshed all ns old new = Refreshes (chosen_of (facts_of b) all (had_cell old) ns) old new

  -- a league that is made, joined or drawn
  abbrev pub LeagueRefreshed : ℕ → SeasonRows → SeasonRows → Type 0
  LeagueRefreshed l old new = Refreshes (league_nodes (facts_of b) (had_cell old) l) old new

  abbrev pub LeagueFollowed : ℕ → SeasonRows → SeasonRows → Type 0
  LeagueFollowed l old new = FollowsFrom (λ before. DifferInLeague before (facts_of b) l) old new

  abbrev pub LeagueMarked : ℕ → SeasonRows → SeasonRows → Type 0
  LeagueMarked l old new = MarksFrom (λ before. DifferInLeague before (facts_of b) l) old new

  -- nothing that a node hangs on: the cells follow as they are
  abbrev pub AlikeFollowed : SeasonRows → Type 0
  AlikeFollowed cells = FollowsFrom (λ before. AreAlike before (facts_of b)) cells cells

  abbrev pub AlikeMarked : SeasonRows → Type 0
  AlikeMarked cells = MarksFrom (λ before. AreAlike before (facts_of b)) cells cells
