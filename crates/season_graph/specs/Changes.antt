-- What one change of the facts leaves as it was.
use Rattle.std.specs.Prelude.{◌≡◌, ◌≢◌, ◌≤◌, ℕ, List, [], Bool, true, false, ◌&&◌, ◌⊎◌, ◌↔◌, nat_le, Some, IsSomeAnd, is_some}
use Rattle.std.specs.Option.{option_map}
use Rattle.rule_book.specs.Calendar.{standing, stands_in}
use Rattle.rule_book.specs.Entries.{entry_in}
use Rattle.rule_book.specs.LeagueCalls.{is_member}
use Rattle.rule_book.specs.Leagues.{LeagueFacts}
use Rattle.rule_book.specs.MatchFacts.{is_finished, line_of}
use Rattle.rule_book.specs.PlayerFigures.{position_in}
use Rattle.rule_book.specs.Players.{player_of}
use Rattle.rule_book.specs.Totals.{gameweeks}
use Rattle.rescore_graph.specs.Graph.{Among}
use Rattle.rescore_graph.specs.States.{State, is_dirty, IsDirty}
use Rattle.rescore_graph.specs.Settling.{Sound}
use Rattle.season_nodes.specs.declared.nodes.Value.{Value}
use Rattle.season_nodes.specs.declared.nodes.Node.{Node}
use Rattle.season_nodes.specs.declared.nodes.Node.TheVariants as node
use Rattle.season_nodes.specs.Brackets.{part_of}
use Rattle.season_nodes.specs.Rounds.{order_in, start_in}
use Rattle.season_nodes.specs.Season.{SeasonFacts, IsSeason, bracket_of, counted_gameweeks, ended, fielded_in, fixtures_of, has_begun, is_live, is_there, players_of, round_of, season_graph}

module _ (b d : SeasonFacts) where
  -- of those in the order of a league the same have a gameweek
  abbrev pub SameBegan : ℕ → ℕ → Type 0
  SameBegan l g = (e : ℕ) → Among (order_in d.leagues l) e → is_live b (node.TeamGw e g) ≡ is_live d (node.TeamGw e g)

  -- of those who can reach a tie the same have a gameweek in its round
  abbrev pub SameReach : ℕ → ℕ → ℕ → Type 0
  SameReach c r i = (e : ℕ) → Among (part_of (bracket_of d c) r i) e → is_live b (node.TeamGw e (round_of d c r)) ≡ is_live d (node.TeamGw e (round_of d c r))

  -- a node's inputs and its own facts are the same in both
  abbrev pub IsSame : Node → Type 0
  IsSame (node.Line f p) = (line_of b.matches f p ≡ line_of d.matches f p) × (b.profile ≡ d.profile) × (position_in b.players p ≡ position_in d.players p)
  IsSame (node.Bonus f) = (players_of b f ≡ players_of d f) × (is_finished b.matches f ≡ is_finished d.matches f)
  IsSame (node.PlayerGw p g) = fixtures_of b p g ≡ fixtures_of d p g
  IsSame (node.TeamGw e g) = (b.team e g ≡ d.team e g) × (b.cost e g ≡ d.cost e g) × (ended b g ≡ ended d g) × (fielded_in b e g ≡ fielded_in d e g)
  IsSame (node.Total e s) = counted_gameweeks b e s ≡ counted_gameweeks d e s
  IsSame (node.Average l g) = (order_in b.leagues l ≡ order_in d.leagues l) × SameBegan l g
  IsSame (node.Match l g i) = (order_in b.leagues l ≡ order_in d.leagues l) × (start_in b.leagues l ≡ start_in d.leagues l) × SameBegan l g
  IsSame (node.HeadRow l e) =
      (order_in b.leagues l ≡ order_in d.leagues l) × (start_in b.leagues l ≡ start_in d.leagues l)
      × (gameweeks (start_in b.leagues l) b.calendar.locked ≡ gameweeks (start_in d.leagues l) d.calendar.locked)
  IsSame (node.Tie c r i) = (bracket_of b c ≡ bracket_of d c) × SameReach c r i

  -- a node that the change from b to d leaves as it was
  abbrev pub IsKept : Node → Type 0
  IsKept n = (is_live b n ≡ is_live d n) × (is_live d n ≡ true → IsSame n)

  -- a node that the change touches: it is live, and was not, or its inputs or own facts are others
  abbrev pub IsTouched : Node → Type 0
  IsTouched n = (is_live d n ≡ true) × (¬ IsKept n)

  -- the entries are as they were in each gameweek that was locked: the same have begun, with the same teams and the same
  -- costs of transfers
  pub record EntriesStay : Type 0 where
    pub begun : (e g : ℕ) → (nat_le 1 g && nat_le g b.calendar.locked) ≡ true → has_begun b e g ≡ has_begun d e g
    pub team : (e g : ℕ) → is_live b (node.TeamGw e g) ≡ true → b.team e g ≡ d.team e g
    pub cost : (e g : ℕ) → is_live b (node.TeamGw e g) ≡ true → b.cost e g ≡ d.cost e g

module _ (b d : SeasonFacts) where
  -- they differ at most in the line of a player in a fixture
  pub record DifferInLine (f p : ℕ) : Type 0 where
    pub profile : b.profile ≡ d.profile
    pub calendar : b.calendar ≡ d.calendar
    pub players : b.players ≡ d.players
    pub marks : (k : ℕ) → is_finished b.matches k ≡ is_finished d.matches k
    pub others : (k q : ℕ) → (k ≢ f) ⊎ (q ≢ p) → line_of b.matches k q ≡ line_of d.matches k q
    pub leagues : b.leagues ≡ d.leagues
    pub cups : b.cups ≡ d.cups
    pub entries : EntriesStay b d

  -- they differ at most in the lines of some players in a fixture, and, if it is marked so, in its mark
  pub record DifferInSheet (f : ℕ) (ps : List ℕ) (marked : Bool) : Type 0 where
    pub profile : b.profile ≡ d.profile
    pub calendar : b.calendar ≡ d.calendar
    pub players : b.players ≡ d.players
    pub marks : (k : ℕ) → (k ≢ f) ⊎ (marked ≡ false) → is_finished b.matches k ≡ is_finished d.matches k
    pub others : (k q : ℕ) → (k ≢ f) ⊎ (¬ Among ps q) → line_of b.matches k q ≡ line_of d.matches k q
    pub leagues : b.leagues ≡ d.leagues
    pub cups : b.cups ≡ d.cups
    pub entries : EntriesStay b d

  -- they differ at most in the mark of a fixture
  pub record DifferInMark (f : ℕ) : Type 0 where
    pub profile : b.profile ≡ d.profile
    pub calendar : b.calendar ≡ d.calendar
    pub players : b.players ≡ d.players
    pub marks : (k : ℕ) → k ≢ f → is_finished b.matches k ≡ is_finished d.matches k
    pub lines : (k q : ℕ) → line_of b.matches k q ≡ line_of d.matches k q
    pub leagues : b.leagues ≡ d.leagues
    pub cups : b.cups ≡ d.cups
    pub entries : EntriesStay b d

  -- they differ at most in where a fixture stands
  pub record DifferInPlace (f : ℕ) : Type 0 where
    pub profile : b.profile ≡ d.profile
    pub locked : b.calendar.locked ≡ d.calendar.locked
    pub players : b.players ≡ d.players
    pub matches : b.matches ≡ d.matches
    pub others : (k : ℕ) → k ≢ f → stands_in b.calendar k ≡ stands_in d.calendar k
    pub leagues : b.leagues ≡ d.leagues
    pub cups : b.cups ≡ d.cups
    pub entries : EntriesStay b d

-- a league goes on as another, which has the same kind and first gameweek, and all its members; and the same order, if it
-- was drawn
pub record GoesOn (old new : LeagueFacts) : Type 0 where
  pub kind : old.kind ≡ new.kind
  pub start : old.start ≡ new.start
  pub members : (e : ℕ) → is_member old e ≡ true → is_member new e ≡ true
  pub order : (old.order ≡ []) ⊎ (old.order ≡ new.order)

module _ (b d : SeasonFacts) where
  -- they differ in a player, who is new: he was not there, and is there
  pub record DifferInPlayer (p : ℕ) : Type 0 where
    pub profile : b.profile ≡ d.profile
    pub calendar : b.calendar ≡ d.calendar
    pub matches : b.matches ≡ d.matches
    pub absent : is_there b p ≡ false
    pub there : is_there d p ≡ true
    pub others : (q : ℕ) → q ≢ p → player_of b.players q ≡ player_of d.players q
    pub leagues : b.leagues ≡ d.leagues
    pub cups : b.cups ≡ d.cups
    pub entries : EntriesStay b d

  -- more gameweeks are locked than the first ones
  pub record DifferInLocks (first : ℕ) : Type 0 where
    pub profile : b.profile ≡ d.profile
    pub players : b.players ≡ d.players
    pub matches : b.matches ≡ d.matches
    pub fixtures : b.calendar.fixtures ≡ d.calendar.fixtures
    pub before : b.calendar.locked ≡ first
    pub rises : first ≤ d.calendar.locked
    pub leagues : b.leagues ≡ d.leagues
    pub cups : b.cups ≡ d.cups
    pub entries : EntriesStay b d

  -- they differ at most in a league, which is new, or goes on
  pub record DifferInLeague (l : ℕ) : Type 0 where
    pub profile : b.profile ≡ d.profile
    pub calendar : b.calendar ≡ d.calendar
    pub players : b.players ≡ d.players
    pub matches : b.matches ≡ d.matches
    pub others : (k : ℕ) → k ≢ l → entry_in b.leagues k ≡ entry_in d.leagues k
    pub goes_on : (old : LeagueFacts) → entry_in b.leagues l ≡ Some old → IsSomeAnd (entry_in d.leagues l) (GoesOn old)
    pub cups : b.cups ≡ d.cups
    pub entries : EntriesStay b d

  -- a cup has no tie in a locked gameweek in either
  abbrev pub IsIdle : ℕ → Type 0
  IsIdle c = (r i : ℕ) → (is_live b (node.Tie c r i) ≡ false) × (is_live d (node.Tie c r i) ≡ false)

  -- they differ in nothing that a node hangs on: the positions of players who have a line are the same, and a cup is, or has
  -- no tie yet
  pub record AreAlike : Type 0 where
    pub profile : b.profile ≡ d.profile
    pub locked : b.calendar.locked ≡ d.calendar.locked
    pub stand : (g : ℕ) → standing b.calendar g ≡ standing d.calendar g
    pub lines : (f p : ℕ) → line_of b.matches f p ≡ line_of d.matches f p
    pub marks : (f : ℕ) → is_finished b.matches f ≡ is_finished d.matches f
    pub there : (q : ℕ) → is_some (player_of b.players q) ≡ is_some (player_of d.players q)
    pub positions : (f q : ℕ) → is_some (line_of b.matches f q) ≡ true → option_map (λ x. x.position) (player_of b.players q) ≡ option_map (λ x. x.position) (player_of d.players q)
    pub leagues : b.leagues ≡ d.leagues
    pub cups : (c : ℕ) → (bracket_of b c ≡ bracket_of d c) ⊎ IsIdle c
    pub entries : EntriesStay b d

-- a line, a mark or a place that is named and is the same is no difference
pub record SameIsAlike : Type 0 where
  pub line : (b d : SeasonFacts) (f p : ℕ) → DifferInLine b d f p → line_of b.matches f p ≡ line_of d.matches f p → AreAlike b d
  pub mark : (b d : SeasonFacts) (f : ℕ) → DifferInMark b d f → is_finished b.matches f ≡ is_finished d.matches f → AreAlike b d
  pub place : (b d : SeasonFacts) (f : ℕ) → IsSeason b → IsSeason d → DifferInPlace b d f → stands_in b.calendar f ≡ stands_in d.calendar f → AreAlike b d

-- cells s that are sound for the facts b became cells t that are sound for the facts d
abbrev pub Follows : SeasonFacts → SeasonFacts → State Node Value → State Node Value → Type 0
Follows b d s t = Sound (season_graph b) s → Sound (season_graph d) t

-- where nothing was dirty, dirty are exactly the nodes that the change from b to d touches
abbrev pub MarksTouched : SeasonFacts → SeasonFacts → State Node Value → State Node Value → Type 0
MarksTouched b d s t = Sound (season_graph b) s → ((n : Node) → is_dirty (s n) ≡ false) → (n : Node) → IsDirty t n ↔ IsTouched b d n
