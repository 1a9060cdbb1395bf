-- What is shown of a league, by its parts.
use Rattle.std.proofs.Common.{◌≡◌, ℕ, List, map, ap, ◌∙◌}
use Rattle.rule_book.specs.LeagueRows.{head_rows}
use Rattle.rule_book.specs.Leagues.{LeagueFacts}
use Rattle.rule_book.specs.Tables.{classic_table_of, head_table_of}
use Rattle.season_book.specs.Book.{EntryFacts, Facts}
use Rattle.season_book.specs.LeagueViews.{classic_rows_by, classic_shown, head_ranked_shown, head_shown, net_in, ranked_shown}
use Rattle.season_book.specs.declared.shown.ShownClassic.{ShownClassic}
use Rattle.season_book.specs.declared.shown.ShownHead.{ShownHead}
use Rattle.season_book.specs.declared.shown.ShownHeadRanked.{ShownHeadRanked}
use Rattle.season_book.specs.declared.shown.ShownRanked.{ShownRanked}

abbrev classic_with : List ℕ → ℕ → List ShownRanked → ShownClassic
classic_with name start rows = record { name = name; start = start; rows = rows }

abbrev head_with : List ℕ → ℕ → List ShownHeadRanked → ShownHead
head_with name start rows = record { name = name; start = start; rows = rows }

pub classic_made : (facts : Facts) (entries : List EntryFacts) (league : LeagueFacts) (name : List ℕ) (start : ℕ) (rows : List ShownRanked) → name ≡ league.name → start ≡ league.start
    → rows ≡ map (ranked_shown entries) (classic_table_of (classic_rows_by facts entries league)) → classic_with name start rows ≡ classic_shown facts entries league
classic_made facts entries league name start rows names starts are =
    ap (λ n. classic_with n start rows) names ∙ ap (λ n. classic_with league.name n rows) starts ∙ ap (classic_with league.name league.start) are

pub head_made : (facts : Facts) (entries : List EntryFacts) (league : LeagueFacts) (name : List ℕ) (start : ℕ) (rows : List ShownHeadRanked) → name ≡ league.name → start ≡ league.start
    → rows ≡ map (head_ranked_shown entries) (head_table_of (head_rows (net_in facts entries) facts.calendar.locked league)) → head_with name start rows ≡ head_shown facts entries league
head_made facts entries league name start rows names starts are =
    ap (λ n. head_with n start rows) names ∙ ap (λ n. head_with league.name n rows) starts ∙ ap (head_with league.name league.start) are
