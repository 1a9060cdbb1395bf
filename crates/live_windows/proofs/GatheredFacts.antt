-- The lines of a gameweek that are a player's own.
use Rattle.std.proofs.Common.{◌≡◌, ◌∙◌, sym, refl, ap, ℕ, ◌<◌, ◌≤◌, ◌==◌, Bool, true, false, cond, List, [], ◌∷◌, ◌++◌, length, map, filter, arith, Option, Some, None, inl, inr}
use Rattle.std.specs.List.{flat_map}
use Rattle.std.specs.Option.{option_map_or}
use Rattle.std.proofs.lemmas.Bool.{eqb-true, ne_eqb}
use Rattle.std.proofs.lemmas.List.{length-append, map-append}
use Rattle.std.proofs.lemmas.List.Elements.{filter-append}
use Rattle.rule_book.specs.declared.line.Line.{Line}
use Rattle.rule_book.specs.Calendar.{standing}
use Rattle.rule_book.specs.MatchFacts.{Lines, line_in, line_of, lines_of, players_in}
use Rattle.rule_book.specs.PlayerFigures.{line_beside}
use Rattle.rescore_graph.specs.Graph.{Among}
use Rattle.season_book.specs.Book.{Facts}
use Rattle.season_nodes.specs.Season.{Rising}
use Rattle.live_windows.specs.declared.sums.LiveLine.{LiveLine}
use Rattle.live_windows.specs.Gathered.{gathered, live_line, own_line, sheet_lines}
use Rattle.season_book.specs.LineSums.{gameweek_lines}

kept_head : {X : Type 0} (p : X → Bool) (x : X) (xs : List X) (b : Bool) → p x ≡ b → filter p (x ∷ xs) ≡ cond b (x ∷ filter p xs) (filter p xs)
kept_head p x xs b e = ap (λ t. cond t (x ∷ filter p xs) (filter p xs)) e

module _ (facts : Facts) (p : ℕ) where
  abbrev is_own : LiveLine → Bool
  is_own line = line.player == p

  -- none of those behind a player is his
  none_behind : (f : ℕ) (rows : Lines) → ((m : ℕ) → Among (players_in rows) m → p < m) → filter is_own (map (live_line facts f) rows) ≡ []
  none_behind f [] behind = refl
  none_behind f (row ∷ rows) behind =
      let later = behind row.0 (inl refl) in
      kept_head is_own (live_line facts f row) (map (live_line facts f) rows) false (ne_eqb row.0 p (λ e. omega (arith, e, later)))
      ∙ none_behind f rows (λ m among. behind m (inr among))

  -- of a fixture's lines his own is the one that is found
  own_in : (f : ℕ) (rows : Lines) → Rising (players_in rows) → filter is_own (map (live_line facts f) rows) ≡ map (own_line facts p) (option_map_or (λ line. (f, line) ∷ []) (line_in rows p) [])
  own_in f [] rising = refl
  own_in f (row ∷ rows) rising = go (row.0 == p) refl (own_in f rows rising.1)
    where
      go : (b : Bool) → (row.0 == p) ≡ b
          → filter is_own (map (live_line facts f) rows) ≡ map (own_line facts p) (option_map_or (λ line. (f, line) ∷ []) (line_in rows p) [])
          → filter is_own (map (live_line facts f) (row ∷ rows)) ≡ map (own_line facts p) (option_map_or (λ line. (f, line) ∷ []) (line_in (row ∷ rows) p) [])
      go true e rest =
          let same : row.0 ≡ p = eqb-true row.0 p e in
          kept_head is_own (live_line facts f row) (map (live_line facts f) rows) true e
          ∙ ap (λ l. live_line facts f row ∷ l) (none_behind f rows (λ m among. let later = rising.0 m among in omega (arith, later, same)))
          ∙ ap (λ q. live_line facts f (q, row.1) ∷ []) same
          ∙ sym (ap (λ t. map (own_line facts p) (option_map_or (λ line. (f, line) ∷ []) (cond t (Some row.1) (line_in rows p)) [])) e)
      go false e rest =
          kept_head is_own (live_line facts f row) (map (live_line facts f) rows) false e
          ∙ rest
          ∙ sym (ap (λ t. map (own_line facts p) (option_map_or (λ line. (f, line) ∷ []) (cond t (Some row.1) (line_in rows p)) [])) e)

  own_of_all : ((f : ℕ) → Rising (players_in (lines_of facts.matches f))) → (fs : List ℕ) → filter is_own (flat_map (sheet_lines facts) fs) ≡ map (own_line facts p) (flat_map (line_beside facts.matches p) fs)
  own_of_all rising [] = refl
  own_of_all rising (f ∷ fs) =
      filter-append is_own (sheet_lines facts f) (flat_map (sheet_lines facts) fs)
      ∙ (λ i. own_in f (lines_of facts.matches f) (rising f) i ++ own_of_all rising fs i)
      ∙ sym (map-append (own_line facts p) (line_beside facts.matches p f) (flat_map (line_beside facts.matches p) fs))

  -- the lines of a gameweek that are his own
  pub own_is : (g : ℕ) → ((f : ℕ) → Rising (players_in (lines_of facts.matches f))) → filter is_own (gathered facts g) ≡ map (own_line facts p) (gameweek_lines facts p g)
  own_is g rising = own_of_all rising (standing facts.calendar g)

  one_at_most : (f : ℕ) → length (line_beside facts.matches p f) ≤ 1
  one_at_most f = go (line_of facts.matches f p)
    where
      go : (o : Option Line) → length {A = ℕ × Line} (option_map_or (λ (line : Line). (f, line) ∷ []) o []) ≤ 1
      go None = omega arith
      go (Some line) = omega arith

  few_in : (fs : List ℕ) → length (flat_map (line_beside facts.matches p) fs) ≤ length fs
  few_in [] = omega arith
  few_in (f ∷ fs) =
      let one = one_at_most f in
      let rest = few_in fs in
      let both = length-append (line_beside facts.matches p f) (flat_map (line_beside facts.matches p) fs) in
      omega (arith, one, rest, both)

  -- he has no more of them than fixtures stand in it
  pub own_few : (g : ℕ) → length (standing facts.calendar g) ≤ 20 → length (gameweek_lines facts p g) ≤ 20
  own_few g few = let less = few_in (standing facts.calendar g) in omega (arith, less, few)
