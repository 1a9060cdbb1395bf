-- The rows of a match, read on both sides.
use Rattle.std.proofs.Common.{◌≡◌, ◌∙◌, sym, ap, subst, ℕ, ◌<◌, ◌≤◌, List, length, get_or}
use Rattle.json_members.proofs.ListLemmas.{get_or-zip, length-zip}
use Rattle.rule_book.specs.declared.line.Line.{Line}
use Rattle.rule_book.specs.MatchFacts.{Lines, lines_of, players_in}
use Rattle.season_book.specs.Book.{Facts}
use Rattle.fixture_windows.specs.MatchRows.{IsMatch}
use Rattle.fixture_windows.proofs.ListFacts.{firsts}

module _ (facts : Facts) (f : ℕ) (players : List ℕ) (lines : List Line) (bonuses : List (ℕ × ℕ)) (m : IsMatch facts f players lines bonuses) where
  pub rows_long : length (lines_of facts.matches f) ≡ length players
  rows_long = sym (ap length m.rows) ∙ length-zip players lines m.paired

  -- what stands on both sides at a place is the row there
  pub row_there : (i p : ℕ) (line : Line) → i < length players → p ≡ get_or players i p → line ≡ get_or lines i line → get_or (lines_of facts.matches f) i (p, line) ≡ (p, line)
  row_there i p line within player is =
      sym (ap (λ (l : Lines). get_or l i (p, line)) m.rows) ∙ get_or-zip players lines i p line m.paired within ∙ (λ j. (sym player j, sym is j))

  pub row_within : (i : ℕ) → i < length players → i < length (lines_of facts.matches f)
  row_within i within = subst (λ n. i < n) (sym rows_long) within

  pub rows_past : (i : ℕ) → length players ≤ i → length (lines_of facts.matches f) ≤ i
  rows_past i past = subst (λ n. n ≤ i) (sym rows_long) past

-- the players of a match are those who have a line in it
pub players_are : (facts : Facts) (f : ℕ) (players : List ℕ) (lines : List Line) (bonuses : List (ℕ × ℕ)) → IsMatch facts f players lines bonuses → players ≡ players_in (lines_of facts.matches f)
players_are facts f players lines bonuses m = sym (firsts players lines m.paired) ∙ ap players_in m.rows
