-- How many counted reads the window of an entry makes at most: each locked gameweek of each entry, for the rank through
-- the last one; that one once more of each, for the rank in it; the locked gameweeks of the entry itself; and of each
-- league that it is in each member a few times.
use Rattle.std.specs.Prelude.{ℕ, ◌+◌, ◌*◌, ◌&&◌, List, length, not, sum_by, if◌then◌else◌}
use Rattle.rule_book.specs.LeagueCalls.{is_head, is_member}
use Rattle.rule_book.specs.Leagues.{LeagueFacts}
use Rattle.season_book.specs.Book.{EntryFacts, Facts}

-- of a league of which an entry is a member, each member's row now and the one of before
abbrev pub classic_league_reads : ℕ → LeagueFacts → ℕ
classic_league_reads e league = if not (is_head league.kind) && is_member league e then 4 * length league.members else 0

abbrev pub head_league_reads : ℕ → LeagueFacts → ℕ
head_league_reads e league = if is_head league.kind && is_member league e then 3 * length league.members else 0

-- where there are so many entries
abbrev pub reads_of_many : Facts → ℕ → List LeagueFacts → ℕ → ℕ
reads_of_many facts many leagues e =
    (many + 1) * (2 * facts.calendar.locked) + many + facts.calendar.locked + 2
    + (sum_by (classic_league_reads e) leagues + sum_by (head_league_reads e) leagues)

abbrev pub entry_window_reads : Facts → List EntryFacts → List LeagueFacts → ℕ → ℕ
entry_window_reads facts entries leagues e = reads_of_many facts (length entries) leagues e
