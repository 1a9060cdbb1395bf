-- Totals of entries compared, and their ranks.
use Rattle.std.proofs.Common.{◌≡◌, ◌≤◌, ◌+◌, ◌&&◌, ℕ, ℤ, pos, ◌+ℤ◌, Bool, List, Some, None, arith, sym, ap, ap₂, ◌∙◌, if◌then◌else◌}
use Rattle.season_views.proofs.Scores.{none_of}
use Rattle.std.specs.List.{count_by}
use Rattle.std.proofs.lemmas.Option.{cond_some}
use Rattle.rule_book.specs.declared.team_score.TeamScore.{TeamScore}
use Rattle.rule_book.specs.ClassicTable.{is_better}
use Rattle.rule_book.specs.History.{Event}
use Rattle.rule_book.specs.HistoryTeam.{is_begun}
use Rattle.season_book.specs.Book.{EntryFacts, Facts}
use Rattle.season_book.specs.EntryViews.{score_by}
use Rattle.season_book.specs.LeagueViews.{no_side, side_by, side_of}
use Rattle.entry_windows.specs.declared.shapes.Race.{Race}
use Rattle.entry_windows.specs.Courses.{IsCourse}
use Rattle.season_book.specs.EntryTotals.{is_in, row_through, total_through}
use Rattle.entry_windows.specs.Races.{AreRanks, IsRace}
use Rattle.entry_windows.proofs.Counted.{rank_is}
use Rattle.entry_windows.proofs.Through.{through_more}

-- the points of a gameweek in which an entry was, and of one in which it was not
pub net_of_some : (facts : Facts) (h : List Event) (g : ℕ) (score : TeamScore) → Some score ≡ (if is_begun h g then Some (score_by facts h g) else None) → score.net ≡ (side_by facts h g).net
net_of_some facts h g score is =
    let told = cond_some (is_begun h g) (score_by facts h g) score (sym is) in
    sym (ap (λ (s : TeamScore). s.net) told.1) ∙ sym (ap (λ (b : Bool). (if b then side_of (score_by facts h g) else no_side).net) told.0)

pub net_of_none : (facts : Facts) (h : List Event) (g : ℕ) → None ≡ (if is_begun h g then Some (score_by facts h g) else None) → pos 0 ≡ (side_by facts h g).net
net_of_none facts h g is =
    sym (ap (λ (b : Bool). (if b then side_of (score_by facts h g) else no_side).net) (none_of (is_begun h g) (score_by facts h g) is))

-- the total through one gameweek more, by the one before and the points of the gameweek
pub through_with : (facts : Facts) (h : List Event) (passed g : ℕ) (before net : ℤ) → g ≡ passed + 1 → before ≡ total_through facts h passed → net ≡ (side_by facts h g).net
    → before +ℤ net ≡ total_through facts h (passed + 1)
through_with facts h passed g before net next so_far is = ap₂ ◌+ℤ◌ so_far (is ∙ ap (λ k. (side_by facts h k).net) next) ∙ sym (through_more facts h passed)

-- a course with its ranks is the race of its entry
pub race_is : (facts : Facts) (entries : List EntryFacts) (e : ℕ) (row : EntryFacts) (through : ℕ) (race : Race) → IsCourse facts row.history through race.course → AreRanks facts entries race.course through race.ranks
    → IsRace facts entries (e, row) through race
race_is facts entries e row through race course ranks = record {
  totals = course.totals;
  ranks = λ place low.
      ranks place low
      ∙ ap₂ (λ (total : ℤ) (transfers : ℕ). count_by (λ entry. is_in entry (place + 1) && is_better (row_through facts (place + 1) (0, entry)) (0, total, transfers)) entries + 1)
      (course.totals place low) (course.transfers place low)
      ∙ sym (rank_is facts entries (place + 1) (e, row));
}

-- the race through fewer gameweeks is the same
pub race_less : (facts : Facts) (entries : List EntryFacts) (row : ℕ × EntryFacts) (g last : ℕ) (race : Race) → g ≤ last → IsRace facts entries row last race → IsRace facts entries row g race
race_less facts entries row g last race le is = record {
  totals = λ place low. is.totals place (omega (arith, low, le));
  ranks = λ place low. is.ranks place (omega (arith, low, le));
}
