-- What the views say.
use Rattle.std.specs.Prelude.{ℕ, List, Option, Some, None, codes, map}
use Rattle.serde_json.specs.Data.{Data, boolean, null, number, string, array, object, member, no_members}
use Rattle.serde_json.specs.Find.{of_integer}
use Rattle.serde_json.specs.View.{items_of}
use Rattle.serde_json.specs.Written.{compact_text}
use Rattle.fpl_base.specs.Letters.{letter_of}
use Rattle.rule_book.specs.declared.player.Player.{Player}
use Rattle.rule_book.specs.declared.team_score.Armband.{Armband}
use Rattle.rule_book.specs.declared.team_score.Figures.{Figures}
use Rattle.season_book.specs.declared.shown.Shown.{Shown}
use Rattle.season_book.specs.declared.shown.Shown.TheVariants as shown
use Rattle.season_book.specs.declared.shown.ShownEntryGameweek.{ShownEntryGameweek}
use Rattle.season_book.specs.declared.shown.ShownFixture.{ShownFixture}
use Rattle.season_book.specs.declared.shown.ShownLine.{ShownLine}
use Rattle.season_book.specs.declared.shown.ShownMe.{ShownMe}
use Rattle.season_book.specs.declared.shown.ShownPick.{ShownPick}
use Rattle.season_book.specs.declared.shown.ShownSeason.{ShownSeason}
use Rattle.fpl_answers.specs.KindNames.{chip_word, profile_number}
use Rattle.fpl_answers.specs.LeagueData.{classic_data, cup_data, head_data}
use Rattle.json_members.specs.Members.{count, count_or_null}

-- a club of the season
abbrev pub club_data : ℕ × List ℕ → Data
club_data club = object (member (codes "id") (count club.0) (member (codes "name") (string club.1) no_members))

-- the season: its clubs and deadlines, how many gameweeks are locked, by which rules it is played, and the last gameweek
-- of the first half
abbrev pub season_data : ShownSeason → Data
season_data s = object
    (member (codes "clubs") (array (items_of (map club_data s.clubs)))
    (member (codes "deadlines") (array (items_of (map count s.deadlines)))
    (member (codes "locked") (count s.locked)
    (member (codes "profile") (count (profile_number s.profile))
    (member (codes "split") (count s.split)
    no_members)))))

-- a player
abbrev pub player_data : Player → Data
player_data p = object
    (member (codes "club") (count p.club)
    (member (codes "gone") (boolean p.gone)
    (member (codes "id") (count p.id)
    (member (codes "name") (string p.name)
    (member (codes "position") (string (letter_of p.position))
    (member (codes "price") (count p.price)
    no_members))))))

-- what a player did in a gameweek
abbrev pub figures_data : Figures → Data
figures_data f = object
    (member (codes "conceded") (count f.conceded)
    (member (codes "goals") (count f.goals)
    (member (codes "played") (boolean f.played)
    (member (codes "points") (number (of_integer f.points))
    no_members))))

-- a player's line, with the points that he has without the bonus
abbrev pub line_data : ShownLine → Data
line_data l = object
    (member (codes "bonus") (count l.bonus)
    (member (codes "bps") (number (of_integer l.bps))
    (member (codes "player") (count l.player)
    (member (codes "points") (number (of_integer l.points))
    no_members))))

-- a fixture, which may stand in no gameweek, and its lines
abbrev pub fixture_data : ShownFixture → Data
fixture_data f = object
    (member (codes "away") (count f.fixture.away)
    (member (codes "finished") (boolean f.finished)
    (member (codes "gameweek") (count_or_null f.fixture.gw)
    (member (codes "home") (count f.fixture.home)
    (member (codes "id") (count f.fixture.id)
    (member (codes "kickoff") (count f.fixture.kickoff)
    (member (codes "lines") (array (items_of (map line_data f.lines)))
    no_members)))))))

-- a player of a team: the price at which he was bought, his present one, and what he sells for
abbrev pub pick_data : ShownPick → Data
pick_data p = object
    (member (codes "bought") (count p.bought)
    (member (codes "player") (count p.player)
    (member (codes "price") (count p.price)
    (member (codes "sell") (count p.sell)
    no_members))))

-- a manager's own entry; there are no free transfers in its first gameweek, and no gameweek when the season is over
abbrev pub me_data : ShownMe → Data
me_data m = object
    (member (codes "bank") (count m.bank)
    (member (codes "captain") (count m.captain)
    (member (codes "chip") (string (chip_word m.chip))
    (member (codes "cost") (count m.cost)
    (member (codes "entry") (count m.entry)
    (member (codes "free") (count_or_null m.free)
    (member (codes "gameweek") (count_or_null m.gameweek)
    (member (codes "last") (count m.last)
    (member (codes "players") (array (items_of (map pick_data m.players)))
    (member (codes "total") (number (of_integer m.total))
    (member (codes "vice") (count m.vice)
    no_members)))))))))))

-- the slot that wears the armband, and how often its points count: once where none wears it
abbrev pub armband_slot : Option Armband → Option ℕ
armband_slot None = None
armband_slot (Some armband) = Some armband.slot

abbrev pub armband_factor : Option Armband → ℕ
armband_factor None = 1
armband_factor (Some armband) = armband.factor

-- what an entry's team scored in a gameweek
abbrev pub entry_gameweek_data : ShownEntryGameweek → Data
entry_gameweek_data e = object
    (member (codes "armband") (count_or_null (armband_slot e.score.armband))
    (member (codes "chip") (string (chip_word e.chip))
    (member (codes "cost") (count e.score.cost)
    (member (codes "eleven") (array (items_of (map count e.score.eleven.slots)))
    (member (codes "factor") (count (armband_factor e.score.armband))
    (member (codes "gross") (number (of_integer e.score.gross))
    (member (codes "net") (number (of_integer e.score.net))
    (member (codes "players") (array (items_of (map count e.players)))
    no_members))))))))

-- what a view shows; a window has its text already, and nothing else
abbrev pub shown_data : Shown → Data
shown_data (shown.Season s) = season_data s
shown_data (shown.Player p) = player_data p
shown_data (shown.PlayerGameweek f) = figures_data f
shown_data (shown.Fixture f) = fixture_data f
shown_data (shown.Me m) = me_data m
shown_data (shown.EntryGameweek e) = entry_gameweek_data e
shown_data (shown.Classic l) = classic_data l
shown_data (shown.Head l) = head_data l
shown_data (shown.Cup c) = cup_data c
shown_data (shown.Page text) = null

-- the text of what a view shows
abbrev pub shown_text : Shown → List ℕ
shown_text (shown.Page text) = text
shown_text s = compact_text (shown_data s)
