-- The text of a fixture is what is written before its lines, its lines, and the closing brace.
use Rattle.std.proofs.Common.{◌≡◌, ℕ, List, ◌++◌, map, decimal, false, true, refl, ap, ◌∙◌, append_assoc}
use Rattle.std.specs.Prelude.{Option, Some, None, codes}
use Rattle.json.specs.Token.{Token}
use Rattle.json.specs.Print.{print, print_from}
use Rattle.serde_json.specs.Data.{array, boolean}
use Rattle.serde_json.specs.View.{items_of}
use Rattle.serde_json.specs.Written.{compact_text}
use Rattle.serde_json.proofs.OnLiterals.{serde_json_on_literals}
use Rattle.season_book.specs.declared.shown.ShownFixture.{ShownFixture}
use Rattle.fpl_answers.specs.FixtureParts.{head_tokens}
use Rattle.json_members.specs.Members.{count_or_null}
use Rattle.fpl_answers.specs.ShownData.{fixture_data, line_data}
use Rattle.json_members.specs.Tokens.{tokens_of}

print_gameweek : (gameweek : Option ℕ) (ts : List Token) → print_from false (tokens_of (count_or_null gameweek) ++ ts) ≡ compact_text (count_or_null gameweek) ++ print_from true ts
unfolding serde_json_on_literals
print_gameweek None ts = refl
print_gameweek (Some n) ts = refl

-- what stood before, the head, the lines and the brace
pub whole_text : (before : List ℕ) (f : ShownFixture) → ((before ++ print (head_tokens f)) ++ compact_text (array (items_of (map line_data f.lines)))) ++ codes "}" ≡ before ++ compact_text (fixture_data f)
unfolding serde_json_on_literals
whole_text before f =
    let lines = compact_text (array (items_of (map line_data f.lines))) in
    let head : List ℕ → List ℕ = λ t. codes "{\"away\":" ++ (decimal f.fixture.away ++ (codes ",\"finished\":" ++ (compact_text (boolean f.finished) ++ (codes ",\"gameweek\":" ++ t)))) in
    ap (λ (t : List ℕ). ((before ++ head t) ++ lines) ++ codes "}") (print_gameweek f.fixture.gw _) ∙ simp append_assoc refl
