-- How many counted reads a view makes at most: a league or cup of m rows or ties and a fixture of m lines 3m + 8, what a
-- manager sees of himself 64, a window 8 and what it speaks of, and every other 8.
use Rattle.std.specs.Prelude.{ℕ, ◌+◌, ◌*◌, List, length}
use Rattle.std.specs.Option.{option_map_or}
use Rattle.fpl_base.specs.declared.kinds.Caller.{Caller}
use Rattle.rule_book.specs.declared.cup.Bracket.{Bracket}
use Rattle.rule_book.specs.Leagues.{LeagueFacts}
use Rattle.rule_book.specs.MatchFacts.{lines_of}
use Rattle.season_book.specs.Book.{Book, EntryFacts, Facts}
use Rattle.season_book.specs.Verdict.{view_answer}
use Rattle.season_book.specs.declared.request.View.{View}
use Rattle.season_book.specs.declared.request.View.TheVariants as view
use Rattle.season_book.specs.declared.request.Window.{Window}
use Rattle.season_book.specs.declared.request.Window.TheVariants as window
use Rattle.season_book.specs.declared.answer.Answer.{Answer}
use Rattle.season_book.specs.declared.answer.Answer.TheVariants as answer
use Rattle.season_book.specs.declared.shown.Shown.{Shown}
use Rattle.season_book.specs.declared.shown.Shown.TheVariants as shown
use Rattle.season_views.specs.BootstrapReads.{bootstrap_reads}
use Rattle.season_views.specs.CupWindowReads.{cup_window_reads}
use Rattle.season_views.specs.DreamTeamWindowReads.{dream_team_reads}
use Rattle.season_views.specs.ElementSummaryReads.{element_summary_reads}
use Rattle.season_views.specs.EntryReads.{history_reads, picks_reads}
use Rattle.season_views.specs.EntryWindowReads.{entry_window_reads}
use Rattle.season_views.specs.FixturesReads.{fixtures_reads}
use Rattle.season_views.specs.HeadMatchesReads.{head_matches_reads}
use Rattle.season_views.specs.LiveWindowReads.{live_reads}
use Rattle.season_views.specs.StandingsReads.{classic_standings_reads, head_standings_reads}
pub use Rattle.season_views.specs.Ties.{ties_of}
use Rattle.season_views.specs.TransfersWindowReads.{transfers_window_reads}

-- by what is shown
abbrev pub reads_of : Shown → ℕ
reads_of (shown.Fixture fixture) = 3 * length fixture.lines + 8
reads_of (shown.Me me) = 64
reads_of (shown.Classic league) = 3 * length league.rows + 8
reads_of (shown.Head league) = 3 * length league.rows + 8
reads_of (shown.Cup cup) = 3 * ties_of cup.rounds + 8
reads_of shown = 8

-- by the answer, which may show nothing
abbrev pub reads_allowed : Answer → ℕ
reads_allowed (answer.Shown shown) = reads_of shown
reads_allowed answer = 8

-- the lines, rows and cells of which a window speaks, each of them once, and a few
abbrev pub window_reads : Facts → List EntryFacts → List LeagueFacts → List Bracket → Window → ℕ
window_reads facts entries leagues cups (window.Sheet f) = length (lines_of facts.matches f)
window_reads facts entries leagues cups window.Bootstrap = bootstrap_reads facts (length entries)
window_reads facts entries leagues cups window.Fixtures = fixtures_reads facts
window_reads facts entries leagues cups (window.Element p) = element_summary_reads facts p
window_reads facts entries leagues cups (window.DreamTeam g) = dream_team_reads facts
window_reads facts entries leagues cups (window.Entry e) = entry_window_reads facts entries leagues e
window_reads facts entries leagues cups (window.Picks e g) = picks_reads entries g
window_reads facts entries leagues cups (window.Transfers e) = transfers_window_reads entries e
window_reads facts entries leagues cups (window.ClassicStandings l) = classic_standings_reads leagues l
window_reads facts entries leagues cups (window.HeadStandings l) = head_standings_reads leagues l
window_reads facts entries leagues cups (window.HeadMatches l) = head_matches_reads facts leagues l
window_reads facts entries leagues cups (window.Cup c) = cup_window_reads facts entries cups c
window_reads facts entries leagues cups (window.History e) = history_reads facts entries
window_reads facts entries leagues cups (window.Live g) = live_reads facts g
window_reads facts entries leagues cups w = 0

abbrev pub spoken_of : Book → View → ℕ
spoken_of book (view.Window w) = option_map_or (λ facts. window_reads facts book.entries book.leagues book.cups w) book.facts 0
spoken_of book view = 0

-- how many a view makes at most: what its answer allows, and what a window speaks of
abbrev pub view_reads : Book → Caller → View → ℕ
view_reads book caller view = reads_allowed (view_answer book caller view) + spoken_of book view
