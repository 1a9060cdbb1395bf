-- What views see and show of a running season, and the cells that are kept of it.
use Rattle.std.specs.Prelude.{◌≤◌, ◌+◌, ℕ}
use Rattle.fpl_base.specs.declared.kinds.Caller.{Caller}
use Rattle.season_nodes.specs.Held.{SeasonRows}
use Rattle.season_book.specs.Book.{Book}
use Rattle.season_book.specs.Doing.{IsShown}
use Rattle.season_book.specs.Verdict.{seen_in}
use Rattle.season_book.specs.declared.answer.Answer.{Answer}
use Rattle.season_book.specs.declared.request.View.{View}
use Rattle.season_views.specs.Cells.{AreKept}
use Rattle.season_views.specs.Reads.{reads_allowed}
use Rattle.season_views.specs.Seen.{SeenSeason}
use Rattle.season_running.specs.Changed.{played_by}
use Rattle.season_running.specs.Standing.{Plays, Running}

-- they hold what the rule book tells of it
abbrev pub AreKeptBy : Running → SeasonRows → Type 0
AreKeptBy running cells = AreKept running.facts (played_by running.facts.profile running.managers) running.leagues running.cups cells

-- the season as a view sees it
abbrev pub seen_of : Running → SeenSeason
seen_of running = record {
  facts = running.facts;
  managers = played_by running.facts.profile running.managers;
  leagues = running.leagues;
  cups = running.cups;
}

-- whoever asks, this is what the rule book shows of each book that the season plays, or memory ran out for it
abbrev pub IsShownIn : Running → View → Answer → Type 0
IsShownIn running view result = (caller : Caller) (book : Book) → Plays running book → IsShown (seen_in book caller view running.facts) result

-- and as many reads are counted as what is shown may take
abbrev pub ReadsAllowed : Running → View → ℕ → ℕ → Type 0
ReadsAllowed running view before after = (caller : Caller) (book : Book) → Plays running book → after ≤ before + reads_allowed (seen_in book caller view running.facts)
