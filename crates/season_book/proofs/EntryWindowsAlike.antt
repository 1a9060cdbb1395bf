-- What the windows of an entry's gameweeks show of books that are the same to a caller.
use Rattle.std.proofs.Common.{◌≡◌, ◌≤◌, ◌+◌, ◌-◌, ℕ, zero, suc, Bool, true, false, ◌&&◌, cond, if◌then◌else◌, nat_le, nat_lt, List, [], ◌∷◌, Some, None, map, filter, is_some, arith, refl, ap, ◌∙◌}
use Rattle.std.specs.List.{enumerate_from, range_with_len}
use Rattle.std.proofs.lemmas.Bool.Decides.{nat_tests}
use Rattle.std.proofs.lemmas.Option.{same_Some}
use Rattle.std.specs.Prelude.{codes}
use Rattle.serde_json.specs.Data.{array, member, no_members, object}
use Rattle.json_members.specs.Members.{no_list}
use Rattle.serde_json.specs.View.{items_of}
use Rattle.fpl_base.specs.declared.kinds.Caller.{Caller}
use Rattle.rule_book.specs.Calendar.{is_locked}
use Rattle.rule_book.specs.ClassicTable.{is_better}
use Rattle.rule_book.specs.Entries.{entry_in}
use Rattle.rule_book.specs.EntryScores.{figures_of_team}
use Rattle.rule_book.specs.History.{Event, chip_at}
use Rattle.rule_book.specs.HistoryRules.{first_gw, is_started}
use Rattle.rule_book.specs.HistoryTeam.{is_begun}
use Rattle.rule_book.specs.HistoryTransfers.{is_past_first}
use Rattle.rule_book.specs.PlayerFigures.{position_in}
use Rattle.rule_book.specs.Ranks.{rank_among}
use Rattle.rule_book.specs.TeamScores.{points_of_slots}
use Rattle.rule_book.specs.Totals.{total_from}
use Rattle.rule_book.specs.UpTo.{start_of}
use Rattle.rule_book.specs.UpToLaws.{CountTheSame, TellTheSame}
use Rattle.rule_book.proofs.AgreeFacts.{scores_agree, totals_agree}
use Rattle.rule_book.proofs.UpToFacts.{count_the_same, tell_the_same}
use Rattle.season_book.specs.Book.{Book, EntryFacts, Facts}
use Rattle.season_book.specs.EntryViews.{has_scored, score_by, team_by}
use Rattle.season_book.specs.Agree.{Alike, EntriesAlike, EntryAlike}
use Rattle.season_book.proofs.EntriesFacts.{both_alike, started_alike}
use Rattle.season_book.proofs.EntriesInAlike.{entries_are, of_both}
use Rattle.season_book.proofs.ListsAlike.{kept_same, range_same}
use Rattle.season_book.specs.ChipNames.{chip_name}
use Rattle.season_book.specs.EntryRows.{benched, entry_row_data, entry_row_of}
use Rattle.season_book.specs.EntryTotals.{is_in, row_through, total_through}
use Rattle.season_book.specs.HistoryWindow.{chip_row, chips_of, played_row, gameweeks_of, history_data, history_window}
use Rattle.season_book.specs.PicksWindow.{picks_data, picks_of, picks_window}

past_same : (h h2 : List Event) (g : ℕ) → start_of h ≡ start_of h2 → is_past_first h g ≡ is_past_first h2 g
past_same [] [] g same = refl
past_same [] (e ∷ h2) g same = cc
past_same (e ∷ h) [] g same = cc
past_same (e ∷ h) (e2 ∷ h2) g same = ap (λ n. nat_lt n g) (same_Some e.gw e2.gw same)

first_same : (h h2 : List Event) → start_of h ≡ start_of h2 → first_gw h ≡ first_gw h2
first_same [] [] same = refl
first_same [] (e ∷ h2) same = cc
first_same (e ∷ h) [] same = cc
first_same (e ∷ h) (e2 ∷ h2) same = same_Some e.gw e2.gw same

range_kept : {X : Type 0} (f f2 : ℕ → X) (test test2 : ℕ → Bool) (k a n : ℕ) → n ≤ (k + 1) - a → ((g : ℕ) → g ≤ k → f g ≡ f2 g) → ((g : ℕ) → g ≤ k → test g ≡ test2 g)
    → map f (filter test (range_with_len a n)) ≡ map f2 (filter test2 (range_with_len a n))
range_kept f f2 test test2 k a zero le same passes = refl
range_kept f f2 test test2 k a (suc n) le same passes =
    let rest = range_kept f f2 test test2 k (a + 1) n (omega (arith, le)) same passes in
    ap (λ b. map f (cond b (a ∷ filter test (range_with_len (a + 1) n)) (filter test (range_with_len (a + 1) n)))) (passes a (omega (arith, le)))
    ∙ two_kept (test2 a) (same a (omega (arith, le))) rest
  where
    two_kept : (b : Bool) → f a ≡ f2 a → map f (filter test (range_with_len (a + 1) n)) ≡ map f2 (filter test2 (range_with_len (a + 1) n))
        → map f (cond b (a ∷ filter test (range_with_len (a + 1) n)) (filter test (range_with_len (a + 1) n))) ≡ map f2 (cond b (a ∷ filter test2 (range_with_len (a + 1) n)) (filter test2 (range_with_len (a + 1) n)))
    two_kept true one rest = λ i. one i ∷ rest i
    two_kept false one rest = rest

module _ (facts : Facts) where
  module _ (entry other : EntryFacts) (a : EntryAlike (Some facts) entry other) where
    module _ (g : ℕ) (le : g ≤ facts.calendar.locked) where
      counts : CountTheSame entry.history other.history g
      counts = count_the_same facts.calendar.locked entry.history other.history a.locked a.start g le

      tells : TellTheSame entry.history other.history g
      tells = tell_the_same facts.calendar.locked entry.history other.history a.locked g le

      team_same : team_by facts entry.history g ≡ team_by facts other.history g
      team_same = tells.team (position_in facts.players)

      score_same : score_by facts entry.history g ≡ score_by facts other.history g
      score_same = scores_agree facts.profile facts.calendar facts.players facts.matches facts.calendar.locked entry.history other.history a.locked a.start g le

    total_same : (g : ℕ) → g ≤ facts.calendar.locked → total_through facts entry.history g ≡ total_through facts other.history g
    total_same g le =
        ap (λ o. total_from (λ k. (score_by facts entry.history k).net) 1 o g) a.start
        ∙ totals_agree (λ k. (score_by facts entry.history k).net) (λ k. (score_by facts other.history k).net) 1 g (start_of other.history)
        (λ k low. ap (λ score. score.net) (score_same k (omega (arith, low, le))))

    row_same : (g n : ℕ) → g ≤ facts.calendar.locked → row_through facts g (n, entry) ≡ row_through facts g (n, other)
    row_same g n le = let total = total_same g le in let same = counts g le in λ i. (n, total i, same.counted i)

  rows_same : (entries others : List EntryFacts) → EntriesAlike (Some facts) entries others → (g n : ℕ) → g ≤ facts.calendar.locked
      → map (row_through facts g) (filter (λ row. is_in row.1 g) (enumerate_from n entries)) ≡ map (row_through facts g) (filter (λ row. is_in row.1 g) (enumerate_from n others))
  rows_same [] [] a g n le = refl
  rows_same [] (other ∷ others) a g n le = absurd a
  rows_same (entry ∷ entries) [] a g n le = absurd a
  rows_same (entry ∷ entries) (other ∷ others) (one, more) g n le =
      let rest : List (ℕ × EntryFacts) = filter (λ (row : ℕ × EntryFacts). is_in row.1 g) (enumerate_from (n + 1) entries) in
      let same = counts entry other one g le in
      ap (λ b. map (row_through facts g) (cond b ((n, entry) ∷ rest) rest)) same.begun
      ∙ kept_same (row_through facts g) (n, entry) (n, other) rest (filter (λ row. is_in row.1 g) (enumerate_from (n + 1) others)) (is_in other g)
      (row_same entry other one g n le) (rows_same entries others more g (n + 1) le)

  module _ (entries others : List EntryFacts) (all : EntriesAlike (Some facts) entries others) (e : ℕ) (entry other : EntryFacts) (a : EntryAlike (Some facts) entry other) where
    entry_row_same : (g : ℕ) → g ≤ facts.calendar.locked → entry_row_of facts entries (e, entry) g ≡ entry_row_of facts others (e, other) g
    entry_row_same g le =
        let team = team_same entry other a g le in
        let score = score_same entry other a g le in
        let past = past_same entry.history other.history g a.start in
        let told = tells entry other a g le in
        let rows = rows_same entries others all g 1 le in
        let row = row_same entry other a g e le in
        let total = total_same entry other a g le in
        λ i. record {
          bank = (team i).bank;
          event = g;
          transfers = if past i then told.swaps i else 0;
          cost = (score i).cost;
          rank = rank_among is_better (rows i) (row i);
          points = (score i).gross;
          bench = points_of_slots (figures_of_team facts.profile facts.calendar facts.players facts.matches (team i) g) (benched (team i) (score i).eleven.slots);
          total = total i;
        }

    picks_same : (g : ℕ) → g ≤ facts.calendar.locked → picks_of facts entries (e, entry) g ≡ picks_of facts others (e, other) g
    picks_same g le =
        let team = team_same entry other a g le in
        let score = score_same entry other a g le in
        let row = entry_row_same g le in
        λ i. picks_data e (team i) (score i) (row i)

    shown_same : (g : ℕ) → (if has_scored facts entry.history g then Some (picks_of facts entries (e, entry) g) else None) ≡ (if has_scored facts other.history g then Some (picks_of facts others (e, other) g) else None)
    shown_same g =
        where_locked (nat_le 1 g) (is_locked facts.calendar g) (is_begun entry.history g) (is_begun other.history g) (picks_of facts entries (e, entry) g) (picks_of facts others (e, other) g)
        (λ l. let le : g ≤ facts.calendar.locked = grind (arith, nat_tests) in let same = counts entry other a g le in (same.begun, picks_same g le))
      where
        -- what is shown of a gameweek is looked at only where the gameweek is locked
        where_locked : {T : Type 0} (first is_by begun also : Bool) (x y : T) → (is_by ≡ true → (begun ≡ also) × (x ≡ y))
            → (if first && (is_by && begun) then Some x else None) ≡ (if first && (is_by && also) then Some y else None)
        where_locked false is_by begun also x y same = refl
        where_locked true false begun also x y same = refl
        where_locked true true begun also x y same = let s = same refl in λ i. if s.0 i then Some (s.1 i) else None

    chips_same : map (chip_row entry.history) (chips_of facts entry.history) ≡ map (chip_row other.history) (chips_of facts other.history)
    chips_same =
        let from : ℕ = first_gw other.history in
        let test : ℕ → Bool = λ g. is_some (chip_name (chip_at entry.history g)) in
        ap (λ k. map (chip_row entry.history) (filter test (range_with_len k ((facts.calendar.locked + 1) - k)))) (first_same entry.history other.history a.start)
        ∙ range_kept (chip_row entry.history) (chip_row other.history) test (λ g. is_some (chip_name (chip_at other.history g))) facts.calendar.locked from ((facts.calendar.locked + 1) - from)
        (omega arith)
        (λ g le. let told = tells entry other a g le in ap (λ c. played_row g (chip_name c)) told.chip)
        (λ g le. let told = tells entry other a g le in ap (λ c. is_some (chip_name c)) told.chip)

    current_same : map (λ g. entry_row_data (entry_row_of facts entries (e, entry) g)) (gameweeks_of facts entry.history) ≡ map (λ g. entry_row_data (entry_row_of facts others (e, other) g)) (gameweeks_of facts other.history)
    current_same =
        let from : ℕ = first_gw other.history in
        ap (λ k. map (λ g. entry_row_data (entry_row_of facts entries (e, entry) g)) (range_with_len k ((facts.calendar.locked + 1) - k))) (first_same entry.history other.history a.start)
        ∙ range_same (λ g. entry_row_data (entry_row_of facts entries (e, entry) g)) (λ g. entry_row_data (entry_row_of facts others (e, other) g)) facts.calendar.locked from ((facts.calendar.locked + 1) - from)
        (omega arith)
        (λ g le. ap entry_row_data (entry_row_same g le))

    history_same : (if is_started entry.history then Some (history_data facts entries (e, entry)) else None) ≡ (if is_started other.history then Some (history_data facts others (e, other)) else None)
    history_same =
        let started = started_alike entry.history other.history a.start in
        λ i. if started i then Some (object
        (member (codes "chips") (array (items_of (chips_same i)))
        (member (codes "current") (array (items_of (current_same i)))
        (member (codes "past") no_list
        no_members)))) else None

-- an entry's gameweek is the same by both books
pub picks_alike : (caller : Caller) (book other : Book) → Alike caller book other → (facts : Facts) → book.facts ≡ Some facts → (e g : ℕ)
    → picks_window facts book.entries e g ≡ picks_window facts other.entries e g
picks_alike caller book other a facts is e g =
    let all = entries_are caller book other a facts is in
    of_both (Some facts) (λ entry. if has_scored facts entry.history g then Some (picks_of facts book.entries (e, entry) g) else None)
    (λ entry. if has_scored facts entry.history g then Some (picks_of facts other.entries (e, entry) g) else None)
    (λ entry twin same. shown_same facts book.entries other.entries all e entry twin same g)
    (entry_in book.entries e) (entry_in other.entries e) (both_alike (Some facts) book.entries other.entries all e)

-- so are its gameweeks
pub history_alike : (caller : Caller) (book other : Book) → Alike caller book other → (facts : Facts) → book.facts ≡ Some facts → (e : ℕ)
    → history_window facts book.entries e ≡ history_window facts other.entries e
history_alike caller book other a facts is e =
    let all = entries_are caller book other a facts is in
    of_both (Some facts) (λ entry. if is_started entry.history then Some (history_data facts book.entries (e, entry)) else None)
    (λ entry. if is_started entry.history then Some (history_data facts other.entries (e, entry)) else None)
    (λ entry twin same. history_same facts book.entries other.entries all e entry twin same)
    (entry_in book.entries e) (entry_in other.entries e) (both_alike (Some facts) book.entries other.entries all e)
