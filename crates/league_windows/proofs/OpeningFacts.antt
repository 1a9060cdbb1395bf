-- The tokens of standings are those before their rows, those of the rows, and those behind them.
use Rattle.std.proofs.Common.{◌≡◌, ◌++◌, ◌∷◌, [], ◌∙◌, ℕ, ap, append_assoc, codes, sym}
use Rattle.json.specs.Token.{Token}
use Rattle.serde_json.specs.Data.{Data}
use Rattle.json_members.specs.Members.{no_list}
use Rattle.json_members.specs.Tokens.{member_tokens, tokens_of}
use Rattle.rule_book.specs.Leagues.{LeagueFacts}
use Rattle.season_book.specs.LeaguePages.{league_told, one_page, standings_told}
use Rattle.league_windows.specs.Openings.{closing_tokens, opening_tokens, page_tokens}

pub opened_and_closed : (l : ℕ) (league : LeagueFacts) (rows : Data) → opening_tokens l league ++ (tokens_of rows ++ closing_tokens) ≡ tokens_of (standings_told l league rows)
opened_and_closed l league rows =
    let told = tokens_of (league_told l league) in
    let behind = member_tokens (codes "new_entries") (one_page no_list) ++ Token.key (codes "standings") ∷ page_tokens in
    ap (λ ts. Token.begin_object ∷ Token.key (codes "league") ∷ ts)
    (append_assoc told behind (tokens_of rows ++ closing_tokens)
    ∙ ap (λ ts. told ++ (behind ++ ts)) (sym (append_assoc (tokens_of rows) (Token.end_object ∷ []) (Token.end_object ∷ []))))
