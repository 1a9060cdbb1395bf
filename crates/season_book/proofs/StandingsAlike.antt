-- What standings show of books that are the same to a caller.
use Rattle.std.proofs.Common.{◌≡◌, ◌≤◌, ◌-◌, ◌&&◌, ℕ, pos, if◌then◌else◌, List, [], ◌∷◌, Some, None, get_or, map, nat_le, nat_lt, arith, ap, ◌∙◌}
use Rattle.std.specs.Option.{option_and_then}
use Rattle.serde_json.specs.Data.{array}
use Rattle.serde_json.specs.View.{items_of}
use Rattle.fpl_base.specs.declared.kinds.Caller.{Caller}
use Rattle.rule_book.specs.ClassicTable.{is_better}
use Rattle.rule_book.specs.Entries.{entry_in}
use Rattle.rule_book.specs.HeadToHead.{is_better as is_better_in_head}
use Rattle.rule_book.specs.HistoryTeam.{is_begun}
use Rattle.rule_book.specs.LeagueCalls.{is_head}
use Rattle.rule_book.specs.Leagues.{LeagueFacts}
use Rattle.rule_book.specs.Ranks.{rank_among}
use Rattle.rule_book.specs.Tables.{classic_table_of, head_table_of}
use Rattle.rule_book.specs.Totals.{total_from}
use Rattle.rule_book.specs.declared.tables.HeadScore.{HeadScore}
use Rattle.rule_book.proofs.AgreeFacts.{rows_agree, scores_agree, totals_agree}
use Rattle.rule_book.proofs.UpToFacts.{count_the_same}
use Rattle.season_book.specs.Book.{Book, EntryFacts, Facts}
use Rattle.season_book.specs.EntryViews.{score_by}
use Rattle.season_book.specs.LeagueViews.{first_of, history_of, net_in}
use Rattle.season_book.specs.Windows.{numbered}
use Rattle.season_book.specs.Agree.{Alike, EntriesAlike}
use Rattle.season_book.proofs.EntriesInAlike.{entries_are}
use Rattle.season_book.proofs.SidesAlike.{first_alike, history_alike, name_alike, net_alike}
use Rattle.season_book.specs.ClassicStandings.{classic_row_told, classic_standings, classic_standings_window, last_points}
use Rattle.season_book.specs.HeadStandings.{head_row_told, head_standings, head_standings_window}
use Rattle.season_book.specs.LeaguePages.{standings_told}
use Rattle.season_book.specs.LeagueTables.{classic_last_rank, classic_row_through, classic_rows_through, head_last_rank, head_row_through, head_rows_through, transfers_through}

module _ (facts : Facts) (entries others : List EntryFacts) (a : EntriesAlike (Some facts) entries others) where
  abbrev locked : ℕ
  locked = facts.calendar.locked

  first : (e : ℕ) → first_of entries e ≡ first_of others e
  first = first_alike facts entries others a

  begun_alike : (e g : ℕ) → g ≤ locked → is_begun (history_of entries e) g ≡ is_begun (history_of others e) g
  begun_alike e g le = (count_the_same locked (history_of entries e) (history_of others e) (history_alike facts entries others a e) (first e) g le).begun

  transfers_alike : (g e : ℕ) → g ≤ locked → transfers_through facts entries g e ≡ transfers_through facts others g e
  transfers_alike g e le = (count_the_same locked (history_of entries e) (history_of others e) (history_alike facts entries others a e) (first e) g le).counted

  points_alike : (e : ℕ) → last_points facts entries e ≡ last_points facts others e
  points_alike e =
      let begun = begun_alike e locked (omega arith) in
      let score : score_by facts (history_of entries e) locked ≡ score_by facts (history_of others e) locked =
      scores_agree facts.profile facts.calendar facts.players facts.matches locked (history_of entries e) (history_of others e) (history_alike facts entries others a e) (first e) locked (omega arith) in
      λ i. if nat_le 1 locked && begun i then (score i).gross else pos 0

  module _ (league : LeagueFacts) where
    pub classic_row_alike : (g e : ℕ) → g ≤ locked → classic_row_through facts entries league g e ≡ classic_row_through facts others league g e
    classic_row_alike g e le =
        let total = totals_agree (net_in facts entries e) (net_in facts others e) league.start g (first_of entries e) (λ k low. net_alike facts entries others a e k (omega (arith, low, le)))
        ∙ ap (λ first. total_from (net_in facts others e) league.start first g) (first e) in
        let transfers = transfers_alike g e le in
        λ i. (e, total i, transfers i)

    pub classic_rows_alike : (g : ℕ) → g ≤ locked → classic_rows_through facts entries league g ≡ classic_rows_through facts others league g
    classic_rows_alike g le = λ i. map (λ e. classic_row_alike g e le i) league.members

    pub classic_last_alike : (e : ℕ) → classic_last_rank facts entries league e ≡ classic_last_rank facts others league e
    classic_last_alike e =
        let before : locked - 1 ≤ locked = omega arith in
        let rows = classic_rows_alike (locked - 1) before in
        let row = classic_row_alike (locked - 1) e before in
        λ i. if nat_lt league.start locked then rank_among is_better (rows i) (row i) else 0

    pub classic_same : (l : ℕ) → classic_standings facts entries l league ≡ classic_standings facts others l league
    classic_same l =
        let rows = classic_rows_alike locked (omega arith) in
        λ i. standings_told l league (array (items_of (map (λ row. classic_row_told (name_alike facts entries others a row.1.entry i) (points_alike row.1.entry i) (classic_last_alike row.1.entry i) row)
        (numbered (classic_table_of (rows i))))))

    pub head_rows_alike : (g : ℕ) → g ≤ locked → head_rows_through facts entries league g ≡ head_rows_through facts others league g
    head_rows_alike g le = (rows_agree (net_in facts entries) (net_in facts others) g league (λ e k low. net_alike facts entries others a e k (omega (arith, low, le)))).head

    -- a row is that of a league with one member
    pub head_row_alike : (g e : ℕ) → g ≤ locked → head_row_through facts entries league g e ≡ head_row_through facts others league g e
    head_row_alike g e le =
        let none : ℕ × HeadScore = head_row_through facts entries league g e in
        ap (λ rows. get_or rows 0 none) (rows_agree (net_in facts entries) (net_in facts others) g (record league { members = e ∷ [] }) (λ x k low. net_alike facts entries others a x k (omega (arith, low, le)))).head

    pub head_last_alike : (e : ℕ) → head_last_rank facts entries league e ≡ head_last_rank facts others league e
    head_last_alike e =
        let before : locked - 1 ≤ locked = omega arith in
        let rows = head_rows_alike (locked - 1) before in
        let row = head_row_alike (locked - 1) e before in
        λ i. if nat_lt league.start locked then rank_among is_better_in_head (rows i) (row i) else 0

    pub head_same : (l : ℕ) → head_standings facts entries l league ≡ head_standings facts others l league
    head_same l =
        let rows = head_rows_alike locked (omega arith) in
        λ i. standings_told l league (array (items_of (map (λ row. head_row_told l (name_alike facts entries others a row.1.entry i) (head_last_alike row.1.entry i) row)
        (numbered (head_table_of (rows i))))))

pub classic_standings_alike : (caller : Caller) (book other : Book) → Alike caller book other → (facts : Facts) → book.facts ≡ Some facts → (l : ℕ)
    → classic_standings_window facts book.entries book.leagues l ≡ classic_standings_window facts other.entries other.leagues l
classic_standings_alike caller book other a facts is l =
    let same = classic_same facts book.entries other.entries (entries_are caller book other a facts is) in
    (λ i. option_and_then (λ league. if is_head league.kind then None else Some (same league l i)) (entry_in (a.leagues i) l))

pub head_standings_alike : (caller : Caller) (book other : Book) → Alike caller book other → (facts : Facts) → book.facts ≡ Some facts → (l : ℕ)
    → head_standings_window facts book.entries book.leagues l ≡ head_standings_window facts other.entries other.leagues l
head_standings_alike caller book other a facts is l =
    let same = head_same facts book.entries other.entries (entries_are caller book other a facts is) in
    (λ i. option_and_then (λ league. if is_head league.kind then Some (same league l i) else None) (entry_in (a.leagues i) l))
