-- What a change of the matches' facts leaves.
use Rattle.std.proofs.Common.{◌≡◌, ◌≢◌, ℕ, ◌<◌, ◌==◌, nat_lt, Bool, true, false, cond, if◌then◌else◌, ⊎_elim, [], ◌∷◌, ◌++◌, Some, None, is_some, refl, sym, ◌∙◌, ap, ap₂, subst, arith}
use Rattle.std.specs.List.{filter, fold}
use Rattle.std.proofs.lemmas.Bool.Decides.{nat_tests}
use Rattle.std.proofs.lemmas.List.{map-append}
use Rattle.std.proofs.lemmas.Option.{same_Some}
use Rattle.rule_book.specs.declared.line.Line.{Line}
use Rattle.rule_book.specs.ById.{placed_at}
use Rattle.rule_book.specs.Figures.{IsLine}
use Rattle.rule_book.specs.MatchFacts.{Lines, Sheet, by_player, is_finished, line_in, line_of, lines_of, players_in, sheet_of, with_line, with_sheet, without_line}
use Rattle.rule_book.specs.Players.{player_of}
use Rattle.match_facts.specs.Laws.{LinesAreAMap, LinesGo, SheetsAreAMap, SheetsHaveTheirLines}
use Rattle.rescore_graph.specs.Graph.{Among}
use Rattle.season_graph.specs.BookChanges.{LineIsDropped, LineIsPut, MarkIsSet, SheetIsPut, with_matches}
use Rattle.season_graph.specs.Changes.{DifferInLine}
use Rattle.season_nodes.specs.Reading.{among_either, from_filter}
use Rattle.season_nodes.specs.Season.{SeasonFacts, IsSeason, Rising, has_line, players_of}
use Rattle.season_graph.proofs.ChangedFacts.{same_or_not}
use Rattle.season_nodes.proofs.RisingFacts.{rising_append, rising_filter}

-- what an id chooses
here : {Y : Type 0} (k q : ℕ) (x y : Y) → q ≡ k → (if q == k then x else y) ≡ x
here k q x y same = grind (arith, nat_tests, same)

away : {Y : Type 0} (k q : ℕ) (x y : Y) → (q ≢ k) → (if q == k then x else y) ≡ y
away k q x y other = grind (arith, nat_tests, other)

is_below : (n m : ℕ) → nat_lt n m ≡ true → n < m
is_below n m e = grind (arith, nat_tests)

less_chain : (n k m : ℕ) → n < k → k < m → n < m
less_chain n k m a b = omega arith

players_case : (t : Bool) (row : ℕ × Line) (rows : Lines) → players_in (cond t (row ∷ rows) rows) ≡ cond t (row.0 ∷ players_in rows) (players_in rows)
players_case true row rows = refl
players_case false row rows = refl

players_filter : (t : ℕ → Bool) (rows : Lines) → players_in (filter (λ row. t row.0) rows) ≡ filter t (players_in rows)
players_filter t [] = refl
players_filter t (row ∷ rows) = players_case (t row.0) row (filter (λ row. t row.0) rows) ∙ ap (λ ns. cond (t row.0) (row.0 ∷ ns) ns) (players_filter t rows)

players_placed : (rows own : Lines) (p : ℕ)
    → players_in (placed_at rows p own) ≡ filter (λ n. nat_lt n p) (players_in rows) ++ (players_in own ++ filter (λ n. nat_lt p n) (players_in rows))
players_placed rows own p =
    map-append (λ row. row.0) (filter (λ row. nat_lt row.0 p) rows) (own ++ filter (λ row. nat_lt p row.0) rows)
    ∙ ap₂ (λ ns ms. ns ++ ms) (players_filter (λ n. nat_lt n p) rows)
    (map-append (λ row. row.0) own (filter (λ row. nat_lt p row.0) rows) ∙ ap (λ ms. players_in own ++ ms) (players_filter (λ n. nat_lt p n) rows))

-- rows with others in the place of one rise
placed_rises : (rows own : Lines) (p : ℕ) → Rising (players_in rows) → Rising (players_in own) → ((q : ℕ) → Among (players_in own) q → q ≡ p) → Rising (players_in (placed_at rows p own))
placed_rises rows own p up mid only =
    let lower = filter (λ n. nat_lt n p) (players_in rows) in
    let upper = filter (λ n. nat_lt p n) (players_in rows) in
    let below : (n : ℕ) → Among lower n → n < p = λ n a. is_below n p (from_filter (λ n. nat_lt n p) (players_in rows) n a).1 in
    let above : (n : ℕ) → Among upper n → p < n = λ n a. is_below p n (from_filter (λ n. nat_lt p n) (players_in rows) n a).1 in
    subst Rising (sym (players_placed rows own p))
    (rising_append lower (players_in own ++ upper) (rising_filter (λ n. nat_lt n p) (players_in rows) up)
    (rising_append (players_in own) upper mid (rising_filter (λ n. nat_lt p n) (players_in rows) up) (λ n m a b. subst (λ x. x < m) (sym (only n a)) (above m b)))
    (λ n m a b. ⊎_elim (λ c. subst (λ x. n < x) (sym (only m c)) (below n a)) (λ c. less_chain n p m (below n a) (above m c)) (among_either (players_in own) upper m b)))

with_rises : (lines : Lines) (p : ℕ) (line : Line) → Rising (players_in lines) → Rising (players_in (with_line lines p line))
with_rises lines p line up = placed_rises lines ((p, line) ∷ []) p up ((λ m a. absurd a), tt) (λ q a. ⊎_elim (λ e. sym e) (λ x. absurd x) a)

without_rises : (lines : Lines) (p : ℕ) → Rising (players_in lines) → Rising (players_in (without_line lines p))
without_rises lines p up = placed_rises lines [] p up tt (λ q a. absurd a)

put_in_rise : (lines so_far : Lines) → Rising (players_in so_far) → Rising (players_in (fold (λ rows row. with_line rows row.0 row.1) so_far lines))
put_in_rise [] so_far up = up
put_in_rise (row ∷ lines) so_far up = put_in_rise lines (with_line so_far row.0 row.1) (with_rises so_far row.0 row.1 up)

-- a fixture gets another sheet
module _ (maps : SheetsAreAMap) (b : SeasonFacts) (f : ℕ) (sheet : Sheet) where
  abbrev after : SeasonFacts
  after = with_matches b (with_sheet b.matches f sheet)

  at_f : sheet_of after.matches f ≡ sheet
  at_f = maps b.matches f sheet f ∙ here f f sheet (sheet_of b.matches f) refl

  not_f : (k : ℕ) → k ≢ f → sheet_of after.matches k ≡ sheet_of b.matches k
  not_f k n = maps b.matches f sheet k ∙ away f k sheet (sheet_of b.matches k) n

  pub lines_here : (q : ℕ) → line_of after.matches f q ≡ line_in sheet.lines q
  lines_here q = ap (λ (s : Sheet). line_in s.lines q) at_f

  pub lines_away : (k q : ℕ) → k ≢ f → line_of b.matches k q ≡ line_of after.matches k q
  lines_away k q n = ap (λ (s : Sheet). line_in s.lines q) (sym (not_f k n))

  pub mark_here : is_finished after.matches f ≡ sheet.finished
  mark_here = ap (λ (s : Sheet). s.finished) at_f

  pub mark_away : (k : ℕ) → k ≢ f → is_finished b.matches k ≡ is_finished after.matches k
  mark_away k n = ap (λ (s : Sheet). s.finished) (sym (not_f k n))

  -- it is a season where the sheet's lines are in order
  pub sheet_keeps : IsSeason b → Rising (players_in sheet.lines) → ((p : ℕ) (line : Line) → line_in sheet.lines p ≡ Some line → IsLine line)
      → ((p : ℕ) → is_some (line_in sheet.lines p) ≡ true → is_some (player_of b.players p) ≡ true) → IsSeason after
  sheet_keeps is up ranges there = record {
    calendar = is.calendar;
    ascending = λ k. ⊎_elim
        (λ e. subst (λ x. Rising (players_of after x)) (sym e) (subst (λ (s : Sheet). Rising (players_in s.lines)) (sym at_f) up))
        (λ n. subst (λ (s : Sheet). Rising (players_in s.lines)) (sym (not_f k n)) (is.ascending k))
        (same_or_not k f);
    ranges = λ k p line e. ⊎_elim
        (λ i. ranges p line (sym (lines_here p) ∙ subst (λ x. line_of after.matches x p ≡ Some line) i e))
        (λ n. is.ranges k p line (lines_away k p n ∙ e))
        (same_or_not k f);
    there = λ k p h. ⊎_elim
        (λ i. there p (ap is_some (sym (lines_here p)) ∙ subst (λ x. has_line after p x ≡ true) i h))
        (λ n. is.there k p (ap is_some (lines_away k p n) ∙ h))
        (same_or_not k f);
    orders = is.orders;
    brackets = is.brackets;
  }

-- the lines of a fixture but one player's stay
module _ (maps : SheetsAreAMap) (b : SeasonFacts) (is : IsSeason b) (f p : ℕ) (lines : Lines) (others : (q : ℕ) → q ≢ p → line_in lines q ≡ line_of b.matches f q) where
  abbrev one_sheet : Sheet
  one_sheet = record { lines = lines; finished = is_finished b.matches f }

  pub one_differs : DifferInLine b (after maps b f one_sheet) f p
  one_differs = record {
    profile = refl;
    calendar = refl;
    players = refl;
    marks = λ k. ⊎_elim
        (λ e. subst (λ x. is_finished b.matches x ≡ is_finished (after maps b f one_sheet).matches x) (sym e) (sym (mark_here maps b f one_sheet)))
        (mark_away maps b f one_sheet k)
        (same_or_not k f);
    others = λ k q o. ⊎_elim
        (λ e. subst (λ x. line_of b.matches x q ≡ line_of (after maps b f one_sheet).matches x q) (sym e)
        (sym (lines_here maps b f one_sheet q ∙ others q (⊎_elim (λ n. absurd (n e)) (λ n. n) o))))
        (λ n. lines_away maps b f one_sheet k q n)
        (same_or_not k f);
    leagues = refl;
    cups = refl;
    entries = record { begun = λ e g w. refl; team = λ e g l. refl; cost = λ e g l. refl };
  }

pub line_is_put : SheetsAreAMap → LinesAreAMap → LineIsPut
line_is_put sheets rows b f p line is good there =
    let ls = lines_of b.matches f in
    let at : (q : ℕ) → q ≡ p → line_in (with_line ls p line) q ≡ Some line = λ q e. rows ls p line q ∙ here p q (Some line) (line_in ls q) e in
    let at_other : (q : ℕ) → q ≢ p → line_in (with_line ls p line) q ≡ line_in ls q = λ q n. rows ls p line q ∙ away p q (Some line) (line_in ls q) n in
    let sheet : Sheet = record { lines = with_line ls p line; finished = is_finished b.matches f } in (
      sheet_keeps sheets b f sheet is (with_rises ls p line (is.ascending f))
          (λ q l e. ⊎_elim (λ i. subst IsLine (same_Some line l (sym (at q i) ∙ e)) good) (λ n. is.ranges f q l (sym (at_other q n) ∙ e)) (same_or_not q p))
          (λ q h. ⊎_elim (λ i. subst (λ x. is_some (player_of b.players x) ≡ true) (sym i) there) (λ n. is.there f q (sym (ap is_some (at_other q n)) ∙ h)) (same_or_not q p)),
      one_differs sheets b is f p (with_line ls p line) at_other,
    )

pub line_is_dropped : SheetsAreAMap → LinesGo → LineIsDropped
line_is_dropped sheets rows b f p is =
    let ls = lines_of b.matches f in
    let at : (q : ℕ) → q ≡ p → line_in (without_line ls p) q ≡ None = λ q e. rows ls p q ∙ here p q None (line_in ls q) e in
    let at_other : (q : ℕ) → q ≢ p → line_in (without_line ls p) q ≡ line_in ls q = λ q n. rows ls p q ∙ away p q None (line_in ls q) n in
    let sheet : Sheet = record { lines = without_line ls p; finished = is_finished b.matches f } in (
      sheet_keeps sheets b f sheet is (without_rises ls p (is.ascending f))
          (λ q l e. ⊎_elim (λ i. absurd (no_line l (sym (at q i) ∙ e))) (λ n. is.ranges f q l (sym (at_other q n) ∙ e)) (same_or_not q p))
          (λ q h. ⊎_elim (λ i. absurd (nobody (sym (ap is_some (at q i)) ∙ h))) (λ n. is.there f q (sym (ap is_some (at_other q n)) ∙ h)) (same_or_not q p)),
      one_differs sheets b is f p (without_line ls p) at_other,
    )
  where
    no_line : (l : Line) → None ≡ Some l → ⊥
    no_line l e = cc

    nobody : false ≡ true → ⊥
    nobody e = cc

pub mark_is_set : SheetsAreAMap → MarkIsSet
mark_is_set sheets b f finished is =
    let sheet : Sheet = record { lines = lines_of b.matches f; finished = finished } in (
      sheet_keeps sheets b f sheet is (is.ascending f) (is.ranges f) (is.there f),
      record {
        profile = refl;
        calendar = refl;
        players = refl;
        marks = mark_away sheets b f sheet;
        lines = λ k q. ⊎_elim
            (λ e. subst (λ x. line_of b.matches x q ≡ line_of (after sheets b f sheet).matches x q) (sym e) (sym (lines_here sheets b f sheet q)))
            (lines_away sheets b f sheet k q)
            (same_or_not k f);
        leagues = refl;
        cups = refl;
        entries = record { begun = λ e g w. refl; team = λ e g l. refl; cost = λ e g l. refl };
      },
    )

pub sheet_is_put : SheetsAreAMap → SheetsHaveTheirLines → SheetIsPut
sheet_is_put sheets own b f lines finished ps marked is are others =
    let sheet : Sheet = record { lines = by_player lines; finished = finished } in
    let at : (q : ℕ) → line_in (by_player lines) q ≡ line_in lines q = λ q. own lines q are.once in (
      sheet_keeps sheets b f sheet is (put_in_rise lines [] tt) (λ p l e. are.ranges p l (sym (at p) ∙ e)) (λ p h. are.there p (sym (ap is_some (at p)) ∙ h)),
      record {
        profile = refl;
        calendar = refl;
        players = refl;
        marks = λ k o. ⊎_elim
            (λ e. subst (λ x. is_finished b.matches x ≡ is_finished (after sheets b f sheet).matches x) (sym e) (others.mark_stays (⊎_elim (λ n. absurd (n e)) (λ m. m) o) ∙ sym (mark_here sheets b f sheet)))
            (mark_away sheets b f sheet k)
            (same_or_not k f);
        others = λ k q o. ⊎_elim
            (λ e. subst (λ x. line_of b.matches x q ≡ line_of (after sheets b f sheet).matches x q) (sym e)
            (others.lines_stay q (⊎_elim (λ n. absurd (n e)) (λ n. n) o) ∙ sym (at q) ∙ sym (lines_here sheets b f sheet q)))
            (λ n. lines_away sheets b f sheet k q n)
            (same_or_not k f);
        leagues = refl;
        cups = refl;
        entries = record { begun = λ e g w. refl; team = λ e g l. refl; cost = λ e g l. refl };
      },
    )
