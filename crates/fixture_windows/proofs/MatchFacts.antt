-- What is read of a match where a season is kept.
use Rattle.std.proofs.Common.{◌≡◌, ◌∙◌, sym, ap, subst, ℕ, true, ◌<◌, List, length, get_or}
use Rattle.std.specs.List.{zip}
use Rattle.std.specs.Option.{unwrap_or}
use Rattle.json_members.proofs.ListLemmas.{get_or-zip, length-zip}
use Rattle.rule_book.specs.declared.cup.Bracket.{Bracket}
use Rattle.rule_book.specs.declared.line.Line.{Line}
use Rattle.rule_book.specs.ById.{at_id}
use Rattle.rule_book.specs.Leagues.{LeagueFacts}
use Rattle.rule_book.specs.MatchFacts.{Lines, lines_of, players_in}
use Rattle.manager_book.specs.Managers.{Managers}
use Rattle.season_book.specs.Book.{Facts}
use Rattle.season_graph.specs.Lines.{IsLineTold, LinesAreTold}
use Rattle.season_graph.specs.Told.{bonuses_told}
use Rattle.season_nodes.specs.Held.{SeasonRows}
use Rattle.season_nodes.specs.Season.{Rising, is_live}
use Rattle.season_nodes.specs.declared.nodes.Node.TheVariants as node
use Rattle.season_views.specs.Cells.{AreKept, books_seen}
use Rattle.season_views.proofs.ShownLines.{among_at, bonus_is_live}
use Rattle.fixture_windows.specs.MatchRows.{IsMatch}
use Rattle.fixture_windows.proofs.ListFacts.{firsts}

module _ (facts : Facts) (managers : Managers) (leagues : List LeagueFacts) (cups : List Bracket) (cells : SeasonRows) (kept : AreKept facts managers leagues cups cells) (law : LinesAreTold) (f : ℕ) (players : List ℕ) (lines : List Line) (bonuses : List (ℕ × ℕ))
    (rows : zip players lines ≡ lines_of facts.matches f) (paired : length lines ≡ length players)
    (held : is_live (books_seen facts managers leagues cups) (node.Bonus f) ≡ true → bonuses ≡ bonuses_told (books_seen facts managers leagues cups) f) where
  players_are : players ≡ players_in (lines_of facts.matches f)
  players_are = sym (firsts players lines paired) ∙ ap players_in rows

  within_rows : (i : ℕ) → i < length players → i < length (lines_of facts.matches f)
  within_rows i within = subst (λ n. i < n) (sym (length-zip players lines paired) ∙ ap length rows) within

  told : (i p : ℕ) (line : Line) → i < length players → IsLineTold (books_seen facts managers leagues cups) f (get_or players i p, get_or lines i line)
  told i p line within =
      let row : ℕ × Line = get_or (lines_of facts.matches f) i (p, line) in
      let is : row ≡ (get_or players i p, get_or lines i line) = sym (ap (λ (l : Lines). get_or l i (p, line)) rows) ∙ get_or-zip players lines i p line paired within in
      subst (IsLineTold (books_seen facts managers leagues cups) f) is (law (books_seen facts managers leagues cups) f row kept.season (among_at (lines_of facts.matches f) i (p, line) (within_rows i within)))

  pub is_match : IsMatch facts f players lines bonuses
  is_match = record {
    rows = rows;
    paired = paired;
    rise = subst Rising (sym players_are) (kept.season.ascending f);
    ranges = λ i line within. kept.season.ranges f (get_or players i 0) (get_or lines i line) (told i 0 line within).found;
    bonus = λ i p line within.
        ap (λ (held_rows : List (ℕ × ℕ)). unwrap_or (at_id held_rows (get_or players i p)) 0) (held (bonus_is_live facts managers leagues cups f i (within_rows i within)))
        ∙ (told i p line within).bonus;
  }
