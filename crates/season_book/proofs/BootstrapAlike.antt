-- What a page begins with, of books that are the same to a caller.
use Rattle.std.proofs.Common.{◌≡◌, ◌≤◌, ℕ, ℤ, ◌==◌, Bool, true, false, cond, List, [], ◌∷◌, Some, map, length, arith, refl, sym, ap, ◌∙◌}
use Rattle.std.specs.Prelude.{codes, sum, sum_by}
use Rattle.std.proofs.lemmas.Bool.Decides.{nat_tests}
use Rattle.std.proofs.lemmas.List.{length-map}
use Rattle.std.proofs.lemmas.List.Sums.{sum-map}
use Rattle.serde_json.specs.Data.{member, no_members, object}
use Rattle.json_members.specs.Members.{count}
use Rattle.fpl_base.specs.declared.kinds.Caller.{Caller}
use Rattle.rule_book.specs.Calendar.{is_locked}
use Rattle.rule_book.specs.HistoryRules.{is_started}
use Rattle.rule_book.specs.declared.player.Player.{Player}
use Rattle.season_book.specs.Book.{Book, EntryFacts, Facts}
use Rattle.season_book.specs.EntryViews.{team_by}
use Rattle.season_book.specs.Windows.{listed, numbered}
use Rattle.season_book.specs.Agree.{Alike, EntriesAlike, EntryAlike}
use Rattle.season_book.proofs.EntriesFacts.{registered_alike}
use Rattle.season_book.specs.Bootstrap.{bootstrap_window, registered}
use Rattle.season_book.specs.Elements.{element_data, element_row, elements_window, entries_now, holders_now, is_picked, points_now, totals_over}
use Rattle.season_book.specs.ElementTypes.{element_types_window}
use Rattle.season_book.specs.EntryTotals.{entries_in, gross_by}
use Rattle.season_book.specs.Events.{average_score, event_data, event_row, events_window, highest_entry, highest_score, is_over, scores_in}
use Rattle.season_book.specs.LineSums.{all_lines}
use Rattle.season_book.specs.Teams.{teams_window}
use Rattle.season_book.proofs.EntriesInAlike.{all_alike, all_in_alike, entries_are, score_by_alike, team_by_alike}

same_sum : {X : Type 0} (f : X → ℕ) (xs ys : List X) → map f xs ≡ map f ys → sum_by f xs ≡ sum_by f ys
same_sum f xs ys same = sym (sum-map f xs) ∙ ap sum same ∙ sum-map f ys

-- what is looked at only where a test passes, or fails
where_true : {X : Type 0} (b : Bool) (x y z : X) → (b ≡ true → x ≡ y) → cond b x z ≡ cond b y z
where_true true x y z same = same refl
where_true false x y z same = refl

unless_true : {X Y : Type 0} (f : X → Y) (b : Bool) (xs ys : List X) → map f xs ≡ map f ys → map f (cond b [] xs) ≡ map f (cond b [] ys)
unless_true f true xs ys same = refl
unless_true f false xs ys same = same

module _ (facts : Facts) (entries others : List EntryFacts) (all : EntriesAlike (Some facts) entries others) where
  -- an entry that is the same to others is registered where the other is
  started_same : (entry other : EntryFacts) → EntryAlike (Some facts) entry other → is_started entry.history ≡ is_started other.history
  started_same entry other a = registered_alike (Some facts) (entry ∷ []) (other ∷ []) (a, tt) 1

  registered_same : registered entries ≡ registered others
  registered_same =
      same_sum (λ (entry : EntryFacts). cond (is_started entry.history) 1 0) entries others
      (all_alike facts (λ entry. cond (is_started entry.history) 1 0) (λ entry other a. ap (λ b. cond b 1 0) (started_same entry other a)) entries others all)

  -- the gameweek that was locked last

  abbrev locked : ℕ
  locked = facts.calendar.locked

  now_same : {X : Type 0} (f : ℕ × EntryFacts → X) → ((n : ℕ) (entry other : EntryFacts) → EntryAlike (Some facts) entry other → f (n, entry) ≡ f (n, other))
      → map f (entries_now facts entries) ≡ map f (entries_now facts others)
  now_same f same =
      unless_true f (locked == 0) (entries_in entries locked) (entries_in others locked)
      (all_in_alike facts f locked (omega arith) same entries others all)

  many_same : length (entries_now facts entries) ≡ length (entries_now facts others)
  many_same =
      let one : ℕ × EntryFacts → ℕ = λ row. row.0 in
      sym (length-map (entries_now facts entries) one) ∙ ap length (now_same one (λ n entry other a. refl)) ∙ length-map (entries_now facts others) one

  holders_same : (p : ℕ) → holders_now facts entries p ≡ holders_now facts others p
  holders_same p =
      let holds : ℕ × EntryFacts → ℕ = λ row. cond (is_picked (team_by facts row.1.history locked).picks p) 1 0 in
      same_sum holds (entries_now facts entries) (entries_now facts others)
      (now_same holds (λ n entry other a. ap (λ team. cond (is_picked team.picks p) 1 0) (team_by_alike facts entry other a locked (omega arith))))

  element_same : (player : Player) → element_row facts entries player ≡ element_row facts others player
  element_same player =
      let p = player.id in
      let holders = holders_same p in
      let many = many_same in
      λ i. element_data player (totals_over facts p (all_lines facts p)) (points_now facts p) (holders i) (many i)

  elements_same : elements_window facts entries ≡ elements_window facts others
  elements_same = λ i. listed (λ player. element_same player i) facts.players

  -- each gameweek

  scores_same : (g : ℕ) → scores_in facts entries g ≡ scores_in facts others g
  scores_same g =
      let score : ℕ × EntryFacts → ℕ × ℤ = λ row. (row.0, gross_by facts row.1.history g) in
      where_true (is_locked facts.calendar g) (map score (entries_in entries g)) (map score (entries_in others g)) []
      (λ l. let le : g ≤ locked = grind (arith, nat_tests) in
      all_in_alike facts score g le (λ n entry other a. ap (λ scored. (n, scored.gross)) (score_by_alike facts entry other a g le)) entries others all)

  event_same : (row : ℕ × ℕ) → event_row facts entries row ≡ event_row facts others row
  event_same row =
      ap (λ scores. event_data row.0 row.1 (average_score scores) (highest_score scores) (highest_entry scores) (is_over facts row.0) locked) (scores_same row.0)

  events_same : events_window facts entries ≡ events_window facts others
  events_same = λ i. listed (λ row. event_same row i) (numbered facts.calendar.deadlines)

  window_same : bootstrap_window facts entries ≡ bootstrap_window facts others
  window_same =
      let elements = elements_same in
      let events = events_same in
      let many = registered_same in
      λ i. object
      (member (codes "element_types") (element_types_window facts.players)
      (member (codes "elements") (elements i)
      (member (codes "events") (events i)
      (member (codes "teams") (teams_window facts.clubs)
      (member (codes "total_players") (count (many i))
      no_members)))))

-- the window is the same by both books
pub bootstrap_window_alike : (caller : Caller) (book other : Book) → Alike caller book other → (facts : Facts) → book.facts ≡ Some facts
    → bootstrap_window facts book.entries ≡ bootstrap_window facts other.entries
bootstrap_window_alike caller book other a facts is = window_same facts book.entries other.entries (entries_are caller book other a facts is)
