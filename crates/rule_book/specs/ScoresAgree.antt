-- What hangs on the gameweeks up to the last locked one alone: scores, totals, the rows of leagues, and winners.
use Rattle.std.specs.Prelude.{◌≡◌, ◌≤◌, ◌+◌, ℕ, ℤ, List, Option}
use Rattle.fpl_base.specs.declared.kinds.Profile.{Profile}
use Rattle.rule_book.specs.declared.cup.Bracket.{Bracket}
use Rattle.rule_book.specs.declared.cup.Side.{Side}
use Rattle.rule_book.specs.declared.player.Player.{Player}
use Rattle.rule_book.specs.Calendar.{CalendarFacts}
use Rattle.rule_book.specs.CupRounds.{locked_winners}
use Rattle.rule_book.specs.Cups.{winner}
use Rattle.rule_book.specs.EntryScores.{score_at}
use Rattle.rule_book.specs.History.{Event}
use Rattle.rule_book.specs.LeagueRows.{classic_rows, head_rows}
use Rattle.rule_book.specs.Leagues.{LeagueFacts}
use Rattle.rule_book.specs.MatchFacts.{MatchFacts}
use Rattle.rule_book.specs.Totals.{total_from}
use Rattle.rule_book.specs.UpTo.{AgreeUpTo, start_of}

-- two ways to have points in a gameweek are the same up to one
abbrev pub SameUpTo : {A : Type 0} → ℕ → (ℕ → A) → (ℕ → A) → Type 0
SameUpTo k one other = (g : ℕ) → g ≤ k → one g ≡ other g

-- the same for each entry
abbrev pub AllSameUpTo : {A : Type 0} → ℕ → (ℕ → ℕ → A) → (ℕ → ℕ → A) → Type 0
AllSameUpTo k one other = (entry : ℕ) → SameUpTo k (one entry) (other entry)

-- histories that agree up to k and start alike score the same in each gameweek up to k
abbrev pub ScoresAgree : Type 0
ScoresAgree = (profile : Profile) (calendar : CalendarFacts) (players : List Player) (facts : MatchFacts) (k : ℕ) (h h2 : List Event) → AgreeUpTo k h h2 → start_of h ≡ start_of h2 → SameUpTo k (score_at profile calendar players facts h) (score_at profile calendar players facts h2)

-- a total hangs on the points of locked gameweeks
abbrev pub TotalsAgree : Type 0
TotalsAgree = (net other : ℕ → ℤ) (from locked : ℕ) (first : Option ℕ) → SameUpTo locked net other → total_from net from first locked ≡ total_from other from first locked

-- so do the rows of a league of either kind
pub record RowsAgree (net other : ℕ → ℕ → ℤ) (locked : ℕ) (league : LeagueFacts) : Type 0 where
  pub classic : (first : ℕ → Option ℕ) (counted : ℕ → ℕ) → classic_rows net first counted locked league ≡ classic_rows other first counted locked league
  pub head : head_rows net locked league ≡ head_rows other locked league

abbrev pub RowsOfLeaguesAgree : Type 0
RowsOfLeaguesAgree = (net other : ℕ → ℕ → ℤ) (locked : ℕ) (league : LeagueFacts) → AllSameUpTo locked net other → RowsAgree net other locked league

-- the winners of a round that is played by gameweek k hang on the sides up to k
abbrev pub WinnersAgree : Type 0
WinnersAgree = (b : Bracket) (side other : ℕ → ℕ → Side) (k round tie : ℕ) → AllSameUpTo k side other → b.start + round ≤ k + 1 → winner b side round tie ≡ winner b other round tie

-- what is shown of a round hangs on the sides of locked gameweeks
abbrev pub RoundsAgree : Type 0
RoundsAgree = (b : Bracket) (side other : ℕ → ℕ → Side) (locked round : ℕ) → AllSameUpTo locked side other → locked_winners b side locked round ≡ locked_winners b other locked round
