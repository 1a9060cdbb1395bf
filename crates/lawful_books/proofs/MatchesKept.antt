-- Sheets that come and change keep the facts lawful.
use Rattle.std.proofs.Common.{◌≡◌, ◌≤◌, ℕ, Bool, true, List, [], ◌∷◌, Option, Some, None, length, arith, refl, sym, ap, ◌∙◌, subst}
use Rattle.std.specs.Prelude.{is_some}
use Rattle.std.specs.Option.{option_and_then}
use Rattle.std.specs.List.{list_all}
use Rattle.std.proofs.lemmas.Bool.{false≢true}
use Rattle.rule_book.specs.declared.line.Line.{Line}
use Rattle.rule_book.specs.declared.season.Fixture.{Fixture}
use Rattle.rule_book.specs.Calendar.{CalendarFacts, fixture_of, is_locked_place, stands_in}
use Rattle.rule_book.specs.Figures.{line_range}
use Rattle.rule_book.specs.MatchCalls.{drop_line, line_refusal, lines_full, lines_range, line_twice, not_locked, put_line, put_sheet, set_finished, sheet_refusal}
use Rattle.rule_book.specs.MatchFacts.{Sheet, by_player, is_finished, line_in, lines_of, with_line, with_sheet, without_line}
use Rattle.season_book.specs.Book.{Facts}
use Rattle.season_book.specs.Commands.{has_fixture, has_player, is_in_locked}
use Rattle.season_records.proofs.Determined.{found_id}
use Rattle.season_records.proofs.Sheets.{sheet_by}
use Rattle.lawful_books.specs.Facts.{AreLawful, IsLawfulLine}
use Rattle.lawful_books.proofs.Lines.{are_few, by_player_found, few_by_id, few_taken, is_locked, line_put, line_taken, none_first, rows_right}

-- where a fixture that is found stands
pub stands_there : (c : CalendarFacts) (f : ℕ) (x : Fixture) → fixture_of c f ≡ Some x → stands_in c f ≡ x.gw
stands_there c f x at = ap (option_and_then (λ (x : Fixture). x.gw)) at

module _ (facts : Facts) (lawful : AreLawful facts) (f : ℕ) where
  -- a sheet of a fixture in a locked gameweek, if it is finished, and of lawful lines
  sheet_put : (sheet : Sheet) → length sheet.lines ≤ 64 → (sheet.finished ≡ true → is_in_locked facts f ≡ true)
      → ((p : ℕ) (line : Line) → line_in sheet.lines p ≡ Some line → IsLawfulLine facts f p line)
      → AreLawful (record facts { matches = with_sheet facts.matches f sheet })
  sheet_put sheet few locked right = record {
    terms = lawful.terms;
    few_clubs = lawful.few_clubs;
    few_players = lawful.few_players;
    few_fixtures = lawful.few_fixtures;
    few_standing = lawful.few_standing;
    few_lines = λ g. sheet_by (λ s. length s.lines ≤ 64) facts.matches f sheet g (λ same. few) (lawful.few_lines g);
    players = λ p player at. (let old = lawful.players p player at in record { club = old.club; price = old.price });
    fixtures = λ g x at. (
        let old = lawful.fixtures g x at in
        record {
          home = old.home;
          away = old.away;
          two = old.two;
          place = old.place;
          kickoff = old.kickoff;
          finished = sheet_by (λ s. s.finished ≡ true → is_locked_place facts.calendar x.gw ≡ true) facts.matches f sheet x.id
              (λ same finished. sym (ap (is_locked_place facts.calendar) (stands_there facts.calendar f x (ap (fixture_of facts.calendar) (sym same ∙ found_id (λ (x : Fixture). x.id) facts.calendar.fixtures g x at) ∙ at))) ∙ locked finished)
              old.finished;
        });
    lines = λ g p line at. (
        let new = sheet_by (λ s. line_in s.lines p ≡ Some line → IsLawfulLine facts g p line) facts.matches f sheet g
        (λ same at. subst (λ h. IsLawfulLine facts h p line) (sym same) (right p line at)) (lawful.lines g p line) at in
        record { fixture = new.fixture; player = new.player; locked = new.locked; range = new.range });
  }

  pub sheet_replaced : (lines : List (ℕ × Line)) (finished : Bool) → has_fixture facts f ≡ true → list_all (λ row. has_player facts row.0) lines ≡ true
      → sheet_refusal f (is_in_locked facts f) lines ≡ None → AreLawful (record facts { matches = put_sheet facts.matches f lines finished })
  sheet_replaced lines finished fixture players none =
      let first = none_first (not_locked f (is_in_locked facts f)) (lines_full lines ∷ line_twice lines ∷ lines_range lines ∷ []) none in
      let second = none_first (lines_full lines) (line_twice lines ∷ lines_range lines ∷ []) first.1 in
      let third = none_first (line_twice lines) (lines_range lines ∷ []) second.1 in
      let fourth = none_first (lines_range lines) [] third.1 in
      let locked : is_in_locked facts f ≡ true = is_locked f (is_in_locked facts f) first.0 in
      let few : length (by_player lines) ≤ length lines = few_by_id lines in
      sheet_put (record { lines = by_player lines; finished = finished }) (omega (arith, few, are_few lines second.0)) (λ is. locked)
      (λ p line at. (
      let right = by_player_found (λ p line. (has_player facts p ≡ true) × (line_range line ≡ None)) lines (rows_right (has_player facts) lines players fourth.0) p line at in
      record { fixture = fixture; player = right.0; locked = locked; range = right.1 }))

  pub line_replaced : (p : ℕ) (line : Line) → has_fixture facts f ≡ true → has_player facts p ≡ true
      → line_refusal facts.matches f (is_in_locked facts f) p line ≡ None → AreLawful (record facts { matches = put_line facts.matches f p line })
  line_replaced p line fixture player none =
      let first = none_first (not_locked f (is_in_locked facts f)) (lines_full (with_line (lines_of facts.matches f) p line) ∷ line_range line ∷ []) none in
      let second = none_first (lines_full (with_line (lines_of facts.matches f) p line)) (line_range line ∷ []) first.1 in
      let third = none_first (line_range line) [] second.1 in
      let locked : is_in_locked facts f ≡ true = is_locked f (is_in_locked facts f) first.0 in
      sheet_put (record { lines = with_line (lines_of facts.matches f) p line; finished = is_finished facts.matches f })
      (are_few (with_line (lines_of facts.matches f) p line) second.0) (λ is. locked)
      (λ q l at. line_put (IsLawfulLine facts f) (lines_of facts.matches f) p line q l
      (record { fixture = fixture; player = player; locked = locked; range = third.0 }) (lawful.lines f q l) at)

  -- a finished fixture that is there stands in a locked gameweek
  finished_locked : has_fixture facts f ≡ true → is_finished facts.matches f ≡ true → is_in_locked facts f ≡ true
  finished_locked there finished = by (fixture_of facts.calendar f) refl there
    where
      by : (o : Option Fixture) → fixture_of facts.calendar f ≡ o → is_some o ≡ true → is_in_locked facts f ≡ true
      by None at there = absurd (false≢true there)
      by (Some x) at there =
          ap (is_locked_place facts.calendar) (stands_there facts.calendar f x at)
          ∙ (lawful.fixtures f x at).finished (ap (is_finished facts.matches) (found_id (λ (x : Fixture). x.id) facts.calendar.fixtures f x at) ∙ finished)

  pub line_dropped : (p : ℕ) → has_fixture facts f ≡ true → AreLawful (record facts { matches = drop_line facts.matches f p })
  line_dropped p fixture =
      sheet_put (record { lines = without_line (lines_of facts.matches f) p; finished = is_finished facts.matches f })
      (omega (arith, few_taken (lines_of facts.matches f) p, lawful.few_lines f)) (finished_locked fixture)
      (λ q l at. lawful.lines f q l (line_taken (lines_of facts.matches f) p q l at))

  pub mark_set : (finished : Bool) → not_locked f (is_in_locked facts f) ≡ None → AreLawful (record facts { matches = set_finished facts.matches f finished })
  mark_set finished none =
      sheet_put (record { lines = lines_of facts.matches f; finished = finished }) (lawful.few_lines f) (λ is. is_locked f (is_in_locked facts f) none) (lawful.lines f)
