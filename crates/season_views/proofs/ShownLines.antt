-- The lines of a fixture, as their cells tell them.
use Rattle.std.proofs.Common.{◌≡◌, ◌<◌, ℕ, zero, suc, true, List, [], ◌∷◌, length, get_or, is_some, nat_lt, inl, inr, arith, refl, ap, ◌∙◌}
use Rattle.std.specs.Option.{unwrap_or}
use Rattle.std.proofs.lemmas.Bool.Decides.{nat_tests}
use Rattle.rule_book.specs.declared.cup.Bracket.{Bracket}
use Rattle.rule_book.specs.declared.line.Line.{Line}
use Rattle.rule_book.specs.ById.{at_id}
use Rattle.rule_book.specs.Leagues.{LeagueFacts}
use Rattle.rule_book.specs.MatchFacts.{Lines, lines_of, players_in}
use Rattle.rule_book.specs.PlayerFigures.{position_in}
use Rattle.rescore_graph.specs.Graph.{Among}
use Rattle.manager_book.specs.Managers.{Managers}
use Rattle.season_graph.specs.Lines.{IsLineTold}
use Rattle.season_graph.specs.Told.{bonuses_told}
use Rattle.season_nodes.specs.Season.{is_live, line_worth, worth_of}
use Rattle.season_nodes.specs.declared.nodes.Node.TheVariants as node
use Rattle.season_book.specs.Book.{Facts}
use Rattle.season_book.specs.Views.{line_shown}
use Rattle.season_book.specs.declared.shown.ShownLine.{ShownLine}
use Rattle.season_views.specs.Cells.{books_seen, line_with}

-- what is read at a place stands in the list
pub among_at : {X : Type 0} (xs : List X) (i : ℕ) (d : X) → i < length xs → Among xs (get_or xs i d)
among_at [] i d within = absurd (omega (arith, within))
among_at (x ∷ xs) zero d within = inl refl
among_at (x ∷ xs) (suc i) d within = inr (among_at xs i d (omega (arith, within)))

-- the player at a place is that of the line there
pub player_at : (lines : Lines) (i p : ℕ) (d : ℕ × Line) → i < length lines → get_or (players_in lines) i p ≡ (get_or lines i d).0
player_at [] i p d within = absurd (omega (arith, within))
player_at (row ∷ lines) zero p d within = refl
player_at (row ∷ lines) (suc i) p d within = player_at lines i p d (omega (arith, within))

some_lines : (n i : ℕ) → i < n → nat_lt 0 n ≡ true
some_lines n i within = grind (arith, nat_tests, within)

-- where a line stands, the bonus of its fixture is live
pub bonus_is_live : (facts : Facts) (managers : Managers) (leagues : List LeagueFacts) (cups : List Bracket) (f i : ℕ) → i < length (lines_of facts.matches f) → is_live (books_seen facts managers leagues cups) (node.Bonus f) ≡ true
bonus_is_live facts managers leagues cups f i within = some_lines (length (lines_of facts.matches f)) i within

module _ (facts : Facts) (managers : Managers) (leagues : List LeagueFacts) (cups : List Bracket) (f : ℕ) (row : ℕ × Line) (told : IsLineTold (books_seen facts managers leagues cups) f row) where
  pub line_is_live : is_live (books_seen facts managers leagues cups) (node.Line f row.0) ≡ true
  line_is_live = ap is_some told.found

  -- a line is shown with what is told of its node, and with its bonus among those that are told of its fixture
  pub row_shown : (bonuses : List (ℕ × ℕ)) (shown : ShownLine) → bonuses ≡ bonuses_told (books_seen facts managers leagues cups) f
      → shown ≡ line_with row.0 (line_worth (books_seen facts managers leagues cups) f row.0) (unwrap_or (at_id bonuses row.0) 0) → shown ≡ line_shown facts f row
  row_shown bonuses shown are is =
      is
      ∙ ap (λ rows. line_with row.0 (line_worth (books_seen facts managers leagues cups) f row.0) (unwrap_or (at_id rows row.0) 0)) are
      ∙ ap (λ w. line_with row.0 w (unwrap_or (at_id (bonuses_told (books_seen facts managers leagues cups) f) row.0) 0)) told.worth
      ∙ ap (line_with row.0 (worth_of facts.profile (position_in facts.players row.0) row.1)) told.bonus
