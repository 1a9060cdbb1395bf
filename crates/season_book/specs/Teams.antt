-- What a window shows of the clubs.
use Rattle.std.specs.Prelude.{ℕ, List, codes, take, encode_utf8_all}
use Rattle.std.specs.Str.{chars}
use Rattle.serde_json.specs.Data.{Data, member, no_members, object, string}
use Rattle.json_members.specs.Members.{count}
use Rattle.season_book.specs.Windows.{listed}

-- the first three characters of a name
abbrev pub short_name : List ℕ → List ℕ
short_name name = encode_utf8_all (take 3 (chars name))

-- a club by its number
abbrev pub team_data : ℕ → List ℕ → Data
team_data club name = object
    (member (codes "code") (count club)
    (member (codes "id") (count club)
    (member (codes "name") (string name)
    (member (codes "short_name") (string (short_name name))
    no_members))))

abbrev pub team_row : ℕ × List ℕ → Data
team_row row = team_data row.0 row.1

abbrev pub teams_window : List (ℕ × List ℕ) → Data
teams_window clubs = listed team_row clubs
