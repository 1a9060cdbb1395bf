-- Parts of the text of a fixture: what stands before its lines, and its lines from one on.
use Rattle.std.specs.Prelude.{ℕ, List, [], ◌∷◌, ◌++◌, codes, drop, map, nat_lt}
use Rattle.json.specs.Token.{Token}
use Rattle.serde_json.specs.Data.{boolean}
use Rattle.serde_json.specs.View.{items_of}
use Rattle.serde_json.specs.Written.{items_text}
use Rattle.season_book.specs.declared.shown.ShownFixture.{ShownFixture}
use Rattle.season_book.specs.declared.shown.ShownLine.{ShownLine}
use Rattle.json_members.specs.Members.{count, count_or_null}
use Rattle.fpl_answers.specs.ShownData.{line_data}
use Rattle.json_members.specs.Tokens.{member_tokens}

-- the beginning of the object, its members, and the name of the lines
abbrev pub head_tokens : ShownFixture → List Token
head_tokens f =
    Token.begin_object ∷ (member_tokens (codes "away") (count f.fixture.away)
    ++ (member_tokens (codes "finished") (boolean f.finished)
    ++ (member_tokens (codes "gameweek") (count_or_null f.fixture.gw)
    ++ (member_tokens (codes "home") (count f.fixture.home)
    ++ (member_tokens (codes "id") (count f.fixture.id)
    ++ (member_tokens (codes "kickoff") (count f.fixture.kickoff)
    ++ Token.key (codes "lines") ∷ []))))))

-- the lines without the first n, behind a comma where one was before them, and the closing bracket
abbrev pub text_from : List ShownLine → ℕ → List ℕ
text_from lines n = items_text (nat_lt 0 n) (items_of (map line_data (drop n lines)))
