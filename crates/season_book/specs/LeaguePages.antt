-- What windows show of a league beside its rows, and rows that all stand on one page.
use Rattle.std.specs.Prelude.{ℕ, Bool, false, Option, Some, None, codes, if◌then◌else◌}
use Rattle.serde_json.specs.Data.{Data, boolean, member, no_members, object, string}
use Rattle.json_members.specs.Members.{count, count_or_null, no_list}
use Rattle.rule_book.specs.declared.league.LeagueKind.{LeagueKind}
use Rattle.rule_book.specs.declared.league.LeagueKind.TheVariants as kind
use Rattle.rule_book.specs.LeagueCalls.{is_drawn, is_head}
use Rattle.rule_book.specs.Leagues.{LeagueFacts}
use Rattle.season_book.specs.Windows.{scoring_of}

-- rows that are all on one page
abbrev pub one_page : Data → Data
one_page rows = object
    (member (codes "has_next") (boolean false)
    (member (codes "page") (count 1)
    (member (codes "results") rows
    no_members)))

-- so many members a league is said to have at most: a classic one tells no bound
abbrev pub bound_told : LeagueKind → Option ℕ
bound_told kind.Classic = None
bound_told kind.Head = Some 64

-- a league is closed once it was drawn; a classic one never is
abbrev pub is_closed : LeagueFacts → Bool
is_closed league = if is_head league.kind then is_drawn league else false

-- a league by its number, as standings tell of it
abbrev pub league_told : ℕ → LeagueFacts → Data
league_told l league = object
    (member (codes "admin_entry") (count league.creator)
    (member (codes "closed") (boolean (is_closed league))
    (member (codes "code_privacy") (string (codes "p"))
    (member (codes "id") (count l)
    (member (codes "league_type") (string (codes "x"))
    (member (codes "max_entries") (count_or_null (bound_told league.kind))
    (member (codes "name") (string league.name)
    (member (codes "scoring") (string (scoring_of league.kind))
    (member (codes "start_event") (count league.start)
    no_members)))))))))

-- its standings: the league, no new entries, and its rows
abbrev pub standings_told : ℕ → LeagueFacts → Data → Data
standings_told l league rows = object
    (member (codes "league") (league_told l league)
    (member (codes "new_entries") (one_page no_list)
    (member (codes "standings") (one_page rows)
    no_members)))
