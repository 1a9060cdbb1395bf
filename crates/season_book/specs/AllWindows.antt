-- What each window shows.
use Rattle.std.specs.Prelude.{ℕ, List, Option, Some}
use Rattle.serde_json.specs.Data.{Data}
use Rattle.fpl_base.specs.declared.kinds.Caller.{Caller}
use Rattle.rule_book.specs.declared.cup.Bracket.{Bracket}
use Rattle.rule_book.specs.Leagues.{LeagueFacts}
use Rattle.season_book.specs.Book.{EntryFacts, Facts, caller_number}
use Rattle.season_book.specs.Bootstrap.{bootstrap_window}
use Rattle.season_book.specs.ClassicStandings.{classic_standings_window}
use Rattle.season_book.specs.CupWindow.{cup_window}
use Rattle.season_book.specs.DreamTeamWindow.{dream_team_window}
use Rattle.season_book.specs.ElementSummary.{element_summary_window}
use Rattle.season_book.specs.EntryWindow.{entry_window}
use Rattle.season_book.specs.FixturesWindow.{fixtures_window}
use Rattle.season_book.specs.HeadMatches.{head_matches_window}
use Rattle.season_book.specs.HeadStandings.{head_standings_window}
use Rattle.season_book.specs.HistoryWindow.{history_window}
use Rattle.season_book.specs.LiveWindow.{live_window}
use Rattle.season_book.specs.PicksWindow.{picks_window}
use Rattle.season_book.specs.TransfersWindow.{transfers_window}
use Rattle.season_book.specs.Windows.{cups_window, entries_window, leagues_window, me_window, my_leagues_window, sheet_window}
use Rattle.season_book.specs.declared.request.Window.{Window}
use Rattle.season_book.specs.declared.request.Window.TheVariants as window

-- what a window shows a caller whose last accepted command has this number; none where an id is not there
abbrev pub window_data : Facts → List EntryFacts → List LeagueFacts → List Bracket → Caller → ℕ → Window → Option Data
window_data facts entries leagues cups caller last window.Me = Some (me_window entries caller last)
window_data facts entries leagues cups caller last window.Entries = Some (entries_window entries)
window_data facts entries leagues cups caller last window.Leagues = Some (leagues_window leagues)
window_data facts entries leagues cups caller last window.MyLeagues = Some (my_leagues_window leagues (caller_number caller))
window_data facts entries leagues cups caller last window.Cups = Some (cups_window cups)
window_data facts entries leagues cups caller last (window.Sheet f) = sheet_window facts f
window_data facts entries leagues cups caller last window.Bootstrap = Some (bootstrap_window facts entries)
window_data facts entries leagues cups caller last window.Fixtures = fixtures_window facts
window_data facts entries leagues cups caller last (window.Live g) = live_window facts g
window_data facts entries leagues cups caller last (window.Element p) = element_summary_window facts p
window_data facts entries leagues cups caller last (window.DreamTeam g) = dream_team_window facts g
window_data facts entries leagues cups caller last (window.Entry e) = entry_window facts entries leagues e
window_data facts entries leagues cups caller last (window.History e) = history_window facts entries e
window_data facts entries leagues cups caller last (window.Picks e g) = picks_window facts entries e g
window_data facts entries leagues cups caller last (window.Transfers e) = transfers_window facts entries e
window_data facts entries leagues cups caller last (window.ClassicStandings l) = classic_standings_window facts entries leagues l
window_data facts entries leagues cups caller last (window.HeadStandings l) = head_standings_window facts entries leagues l
window_data facts entries leagues cups caller last (window.HeadMatches l) = head_matches_window facts entries leagues l
window_data facts entries leagues cups caller last (window.Cup c) = cup_window facts entries cups c
