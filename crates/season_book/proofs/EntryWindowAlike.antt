-- What the window of an entry shows of books that are the same to a caller.
use Rattle.std.proofs.Common.{◌≡◌, ◌≤◌, ◌+◌, ◌-◌, ◌&&◌, ℕ, ℤ, cond, if◌then◌else◌, nat_le, List, [], ◌∷◌, Some, None, map, filter, codes, arith, refl, sym, ap, ◌∙◌}
use Rattle.std.specs.Prelude.{count_by, int_lt}
use Rattle.std.specs.List.{enumerate_from, sum}
use Rattle.std.specs.Option.{option_map}
use Rattle.std.proofs.lemmas.List.Sums.{sum_by-cons}
use Rattle.serde_json.specs.Data.{array, member, no_members, object, string}
use Rattle.serde_json.specs.View.{items_of}
use Rattle.json_members.specs.Members.{count, count_or_null, integer_or_null}
use Rattle.fpl_base.specs.declared.kinds.Caller.{Caller}
use Rattle.rule_book.specs.ClassicTable.{is_better}
use Rattle.rule_book.specs.Entries.{entry_in}
use Rattle.rule_book.specs.HeadToHead.{is_better as is_better_in_head}
use Rattle.rule_book.specs.HistoryTransfers.{swaps_in}
use Rattle.rule_book.specs.Leagues.{LeagueFacts}
use Rattle.rule_book.specs.PlayerFigures.{position_in}
use Rattle.rule_book.specs.Ranks.{rank_among}
use Rattle.rule_book.specs.Totals.{total_from}
use Rattle.rule_book.specs.UpTo.{start_of}
use Rattle.rule_book.specs.UpToLaws.{CountTheSame, TellTheSame}
use Rattle.rule_book.proofs.AgreeFacts.{scores_agree, totals_agree}
use Rattle.rule_book.proofs.UpToFacts.{count_the_same, tell_the_same}
use Rattle.season_book.specs.Book.{Book, EntryFacts, Facts}
use Rattle.season_book.specs.EntryViews.{score_by, team_by}
use Rattle.season_book.specs.Agree.{Alike, EntriesAlike, EntryAlike}
use Rattle.season_book.proofs.EntriesFacts.{both_alike}
use Rattle.season_book.proofs.EntriesInAlike.{entries_are, of_both}
use Rattle.season_book.proofs.ListsAlike.{kept_same, range_same}
use Rattle.season_book.specs.EntryTotals.{event_rank, gross_by, is_in, overall_rank, row_through, total_through}
use Rattle.season_book.specs.EntryWindow.{classic_league_told, classic_leagues_of, entry_league_told, entry_leagues_told, entry_told, entry_window, head_league_told, head_leagues_of, transfers_after}
use Rattle.season_book.proofs.StandingsAlike.{classic_last_alike, classic_row_alike, classic_rows_alike, head_last_alike, head_row_alike, head_rows_alike}

module _ (facts : Facts) where
  abbrev last : ℕ
  last = facts.calendar.locked

  module _ (entry other : EntryFacts) (a : EntryAlike (Some facts) entry other) where
    module _ (g : ℕ) (le : g ≤ last) where
      counts : CountTheSame entry.history other.history g
      counts = count_the_same last entry.history other.history a.locked a.start g le

      tells : TellTheSame entry.history other.history g
      tells = tell_the_same last entry.history other.history a.locked g le

      team_same : team_by facts entry.history g ≡ team_by facts other.history g
      team_same = tells.team (position_in facts.players)

      score_same : score_by facts entry.history g ≡ score_by facts other.history g
      score_same = scores_agree facts.profile facts.calendar facts.players facts.matches last entry.history other.history a.locked a.start g le

    total_same : (g : ℕ) → g ≤ last → total_through facts entry.history g ≡ total_through facts other.history g
    total_same g le =
        ap (λ o. total_from (λ k. (score_by facts entry.history k).net) 1 o g) a.start
        ∙ totals_agree (λ k. (score_by facts entry.history k).net) (λ k. (score_by facts other.history k).net) 1 g (start_of other.history)
        (λ k low. ap (λ score. score.net) (score_same k (omega (arith, low, le))))

    row_same : (g n : ℕ) → g ≤ last → row_through facts g (n, entry) ≡ row_through facts g (n, other)
    row_same g n le = let total = total_same g le in let same = counts g le in λ i. (n, total i, same.counted i)

    gross_same : gross_by facts entry.history last ≡ gross_by facts other.history last
    gross_same = ap (λ score. score.gross) (score_same last (omega arith))

    transfers_same : (first : ℕ) → transfers_after entry.history first last ≡ transfers_after other.history first last
    transfers_same first = ap sum (range_same (swaps_in entry.history) (swaps_in other.history) last (first + 1) ((last + 1) - (first + 1)) (omega arith) (λ g le. (tells g le).swaps))

  -- of all who are in the last gameweek
  module _ {Y : Type 0} (f : ℕ × EntryFacts → Y) (same : (n : ℕ) (entry other : EntryFacts) → EntryAlike (Some facts) entry other → f (n, entry) ≡ f (n, other)) where
    all_same : (entries others : List EntryFacts) → EntriesAlike (Some facts) entries others → (n : ℕ)
        → map f (filter (λ row. is_in row.1 last) (enumerate_from n entries)) ≡ map f (filter (λ row. is_in row.1 last) (enumerate_from n others))
    all_same [] [] a n = refl
    all_same [] (other ∷ others) a n = absurd a
    all_same (entry ∷ entries) [] a n = absurd a
    all_same (entry ∷ entries) (other ∷ others) (one, more) n =
        let rest : List (ℕ × EntryFacts) = filter (λ (row : ℕ × EntryFacts). is_in row.1 last) (enumerate_from (n + 1) entries) in
        let begun = (counts entry other one last (omega arith)).begun in
        ap (λ b. map f (cond b ((n, entry) ∷ rest) rest)) begun
        ∙ kept_same f (n, entry) (n, other) rest (filter (λ row. is_in row.1 last) (enumerate_from (n + 1) others)) (is_in other last)
        (same n entry other one) (all_same entries others more (n + 1))

  -- how many have more points is told by their points alone
  by_points : (points : ℤ) (rows : List (ℕ × EntryFacts)) → count_by (λ other. int_lt points (gross_by facts other.1.history last)) rows ≡ count_by (int_lt points) (map (λ row. gross_by facts row.1.history last) rows)
  by_points points [] = refl
  by_points points (row ∷ rows) =
      sum_by-cons (λ (other : ℕ × EntryFacts). cond (int_lt points (gross_by facts other.1.history last)) 1 0) row rows
      ∙ ap (λ n. cond (int_lt points (gross_by facts row.1.history last)) 1 0 + n) (by_points points rows)
      ∙ sym (sum_by-cons (λ (z : ℤ). cond (int_lt points z) 1 0) (gross_by facts row.1.history last) (map (λ row. gross_by facts row.1.history last) rows))

  module _ (entries others : List EntryFacts) (all : EntriesAlike (Some facts) entries others) (leagues : List LeagueFacts) (e : ℕ) where
    classic_told : (row : ℕ × LeagueFacts) → classic_league_told facts entries e row ≡ classic_league_told facts others e row
    classic_told row =
        let before = classic_last_alike facts entries others all row.1 e in
        let rows = classic_rows_alike facts entries others all row.1 last (omega arith) in
        let own = classic_row_alike facts entries others all row.1 last e (omega arith) in
        λ i. entry_league_told e (before i) (rank_among is_better (rows i) (own i)) row

    head_told : (row : ℕ × LeagueFacts) → head_league_told facts entries e row ≡ head_league_told facts others e row
    head_told row =
        let before = head_last_alike facts entries others all row.1 e in
        let rows = head_rows_alike facts entries others all row.1 last (omega arith) in
        let own = head_row_alike facts entries others all row.1 last e (omega arith) in
        λ i. entry_league_told e (before i) (rank_among is_better_in_head (rows i) (own i)) row

    leagues_told : entry_leagues_told facts entries leagues e ≡ entry_leagues_told facts others leagues e
    leagues_told =
        λ i. object
        (member (codes "classic") (array (items_of (map (λ row. classic_told row i) (classic_leagues_of leagues e))))
        (member (codes "h2h") (array (items_of (map (λ row. head_told row i) (head_leagues_of leagues e))))
        no_members))

    module _ (entry other : EntryFacts) (a : EntryAlike (Some facts) entry other) where
      event_rank_same : event_rank facts entries last (e, entry) ≡ event_rank facts others last (e, other)
      event_rank_same =
          let more : ℕ × EntryFacts → ℤ = λ row. gross_by facts row.1.history last in
          let points = all_same more (λ n x y same. gross_same x y same) entries others all 1 in
          let own = gross_same entry other a in
          ap (λ n. n + 1)
          (by_points (gross_by facts entry.history last) (filter (λ row. is_in row.1 last) (enumerate_from 1 entries))
          ∙ (λ i. count_by (int_lt (own i)) (points i))
          ∙ sym (by_points (gross_by facts other.history last) (filter (λ row. is_in row.1 last) (enumerate_from 1 others))))

      overall_rank_same : overall_rank facts entries last (e, entry) ≡ overall_rank facts others last (e, other)
      overall_rank_same =
          let rows = all_same (row_through facts last) (λ n x y same. row_same x y same last n (omega arith)) entries others all 1 in
          let own = row_same entry other a last e (omega arith) in
          λ i. rank_among is_better (rows i) (own i)

      told_same : (first : ℕ) → entry_told facts entries leagues (e, entry) first ≡ entry_told facts others leagues (e, other) first
      told_same first =
          let begun = (counts entry other a last (omega arith)).begun in
          let team = team_same entry other a last (omega arith) in
          let score = score_same entry other a last (omega arith) in
          let total = total_same entry other a last (omega arith) in
          let made = transfers_same entry other a first in
          let event = event_rank_same in
          let overall = overall_rank_same in
          let told = leagues_told in
          let name = a.name in
          λ i. object
          (member (codes "current_event") (count_or_null (if nat_le 1 last then Some last else None))
          (member (codes "id") (count e)
          (member (codes "last_deadline_bank") (count_or_null (if nat_le 1 last && begun i then Some (team i).bank else None))
          (member (codes "last_deadline_total_transfers") (count (made i))
          (member (codes "leagues") (told i)
          (member (codes "name") (string (name i))
          (member (codes "player_first_name") (string [])
          (member (codes "player_last_name") (string [])
          (member (codes "started_event") (count first)
          (member (codes "summary_event_points") (integer_or_null (if nat_le 1 last && begun i then Some (score i).gross else None))
          (member (codes "summary_event_rank") (count_or_null (if nat_le 1 last && begun i then Some (event i) else None))
          (member (codes "summary_overall_points") (integer_or_null (if nat_le 1 last && begun i then Some (total i) else None))
          (member (codes "summary_overall_rank") (count_or_null (if nat_le 1 last && begun i then Some (overall i) else None))
          no_members)))))))))))))

      shown_same : option_map (entry_told facts entries leagues (e, entry)) (start_of entry.history) ≡ option_map (entry_told facts others leagues (e, other)) (start_of other.history)
      shown_same = ap (option_map (entry_told facts entries leagues (e, entry))) a.start ∙ (λ i. option_map (λ first. told_same first i) (start_of other.history))

-- an entry is the same by both books
pub entry_alike : (caller : Caller) (book other : Book) → Alike caller book other → (facts : Facts) → book.facts ≡ Some facts → (e : ℕ)
    → entry_window facts book.entries book.leagues e ≡ entry_window facts other.entries other.leagues e
entry_alike caller book other a facts is e =
    let all = entries_are caller book other a facts is in
    of_both (Some facts) (λ entry. option_map (entry_told facts book.entries book.leagues (e, entry)) (start_of entry.history))
    (λ entry. option_map (entry_told facts other.entries book.leagues (e, entry)) (start_of entry.history))
    (λ entry twin same. shown_same facts book.entries other.entries all book.leagues e entry twin same)
    (entry_in book.entries e) (entry_in other.entries e) (both_alike (Some facts) book.entries other.entries all e)
    ∙ ap (λ leagues. entry_window facts other.entries leagues e) a.leagues
