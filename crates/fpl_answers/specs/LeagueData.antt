-- What the views of leagues and cups say.
use Rattle.std.specs.Prelude.{ℕ, List, Option, Some, None, codes, map}
use Rattle.serde_json.specs.Data.{Data, null, number, string, array, object, member, no_members}
use Rattle.serde_json.specs.Find.{of_integer}
use Rattle.serde_json.specs.View.{items_of}
use Rattle.season_book.specs.declared.shown.ShownClassic.{ShownClassic}
use Rattle.season_book.specs.declared.shown.ShownCup.{ShownCup}
use Rattle.season_book.specs.declared.shown.ShownHead.{ShownHead}
use Rattle.season_book.specs.declared.shown.ShownHeadRanked.{ShownHeadRanked}
use Rattle.season_book.specs.declared.shown.ShownRanked.{ShownRanked}
use Rattle.json_members.specs.Members.{count}

-- a row of a classic league: the entry with its name, its rank, its points and its counted transfers
abbrev pub ranked_data : ShownRanked → Data
ranked_data r = object
    (member (codes "entry") (count r.row.entry)
    (member (codes "name") (string r.name)
    (member (codes "rank") (count r.row.rank)
    (member (codes "total") (number (of_integer r.row.total))
    (member (codes "transfers") (count r.row.transfers)
    no_members)))))

-- a classic league: its table, and the gameweek from which on points count
abbrev pub classic_data : ShownClassic → Data
classic_data l = object
    (member (codes "kind") (string (codes "classic"))
    (member (codes "name") (string l.name)
    (member (codes "rows") (array (items_of (map ranked_data l.rows)))
    (member (codes "start") (count l.start)
    no_members))))

-- a row of a head-to-head league: the entry with its name, its rank, its matches, its match points, and what it scored
abbrev pub head_ranked_data : ShownHeadRanked → Data
head_ranked_data r = object
    (member (codes "drawn") (count r.row.score.drawn)
    (member (codes "entry") (count r.row.entry)
    (member (codes "lost") (count r.row.score.lost)
    (member (codes "name") (string r.name)
    (member (codes "points") (count r.row.score.points)
    (member (codes "rank") (count r.row.rank)
    (member (codes "scored") (number (of_integer r.row.score.scored))
    (member (codes "won") (count r.row.score.won)
    no_members))))))))

-- a head-to-head league: its table, and the gameweek of its first matches
abbrev pub head_data : ShownHead → Data
head_data l = object
    (member (codes "kind") (string (codes "head"))
    (member (codes "name") (string l.name)
    (member (codes "rows") (array (items_of (map head_ranked_data l.rows)))
    (member (codes "start") (count l.start)
    no_members))))

-- a round of a cup: the winners of its ties in their order, or null while its gameweek is open
abbrev pub round_data : Option (List ℕ) → Data
round_data None = null
round_data (Some winners) = array (items_of (map count winners))

-- a cup: its rounds, and the gameweek of the first
abbrev pub cup_data : ShownCup → Data
cup_data c = object
    (member (codes "rounds") (array (items_of (map round_data c.rounds)))
    (member (codes "start") (count c.start)
    no_members))
