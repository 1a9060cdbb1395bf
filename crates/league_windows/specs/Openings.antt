-- The tokens of standings before their rows, and those behind them.
use Rattle.std.specs.Prelude.{◌≡◌, ℕ, false, List, [], ◌∷◌, ◌++◌, codes, Result, IfOk}
use Rattle.json.specs.Token.{Token}
use Rattle.json.specs.Written.{Written}
use Rattle.serde_json.specs.Data.{Data, boolean}
use Rattle.json_members.specs.Members.{count, no_list}
use Rattle.json_members.specs.Tokens.{member_tokens, tokens_of}
use Rattle.fpl_base.specs.declared.memory.Memory.{Memory}
use Rattle.rule_book.specs.Leagues.{LeagueFacts}
use Rattle.season_book.specs.LeaguePages.{league_told, one_page}

-- up to where the rows of one page begin
abbrev pub page_tokens : List Token
page_tokens =
    Token.begin_object ∷ (member_tokens (codes "has_next") (boolean false) ++ (member_tokens (codes "page") (count 1) ++ Token.key (codes "results") ∷ []))

-- up to where the rows of standings begin, and then to the end
abbrev pub opening_tokens : ℕ → LeagueFacts → List Token
opening_tokens l league =
    Token.begin_object
    ∷ (member_tokens (codes "league") (league_told l league)
    ++ (member_tokens (codes "new_entries") (one_page no_list)
    ++ Token.key (codes "standings")
    ∷ page_tokens))

abbrev pub closing_tokens : List Token
closing_tokens = Token.end_object ∷ Token.end_object ∷ []

-- a value is written whole, unless memory runs out
abbrev pub WritesData : Data → Result (Unit {0}) Memory → Written → Written → Type 0
WritesData d result old new = IfOk result (λ _. (new.tokens ≡ old.tokens ++ tokens_of d) × (new.before ≡ old.before))
