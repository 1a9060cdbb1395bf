-- What a window shows of the gameweeks.
use Rattle.std.specs.Prelude.{ℕ, ◌+◌, ◌==◌, ℤ, pos, ◌+ℤ◌, Bool, ◌&&◌, List, [], ◌∷◌, ◌++◌, Option, Some, None, codes, find, fold, int_le, length, map, if◌then◌else◌}
use Rattle.std.specs.Fmt.{decimal}
use Rattle.std.specs.Int.{int_div_euclid, int_max}
use Rattle.std.specs.Option.{option_and_then, option_map}
use Rattle.serde_json.specs.Data.{Data, boolean, member, no_members, object, string}
use Rattle.json_members.specs.Members.{count, count_or_null, integer, integer_or_null}
use Rattle.rule_book.specs.Calendar.{has_ended, is_locked}
use Rattle.rule_book.specs.MatchFacts.{is_finished}
use Rattle.season_book.specs.Book.{EntryFacts, Facts}
use Rattle.season_book.specs.Windows.{listed, numbered}
use Rattle.season_book.specs.EntryTotals.{entries_in, gross_by}
use Rattle.season_book.specs.MomentText.{moment_text}

-- the points of a gameweek, before deductions, beside the number of who has them
abbrev pub Scores : Type 0
Scores = List (ℕ × ℤ)

-- what the entries in a gameweek have in it; none while it is open
abbrev pub scores_in : Facts → List EntryFacts → ℕ → Scores
scores_in facts entries g =
    if is_locked facts.calendar g then map (λ row. (row.0, gross_by facts row.1.history g)) (entries_in entries g) else []

-- all of them together
abbrev pub sum_of_scores : Scores → ℤ
sum_of_scores scores = fold (λ total row. total +ℤ row.1) (pos 0) scores

-- their mean, rounded down; 0 where there is none
abbrev pub average_of : ℤ → ℕ → ℤ
average_of total many = if many == 0 then pos 0 else int_div_euclid total (pos many)

abbrev pub average_score : Scores → ℤ
average_score scores = average_of (sum_of_scores scores) (length scores)

-- the greatest of them, if there is one
abbrev pub greatest_of : List ℤ → Option ℤ
greatest_of [] = None
greatest_of (z ∷ zs) = Some (fold int_max z zs)

abbrev pub highest_score : Scores → Option ℤ
highest_score scores = greatest_of (map (λ row. row.1) scores)

-- who is the first to have it
abbrev pub first_with : Scores → ℤ → Option ℕ
first_with scores highest = option_map (λ row. row.0) (find (λ row. int_le highest row.1) scores)

abbrev pub highest_entry : Scores → Option ℕ
highest_entry scores = option_and_then (first_with scores) (highest_score scores)

-- whether a gameweek is locked and has ended
abbrev pub is_over : Facts → ℕ → Bool
is_over facts g = is_locked facts.calendar g && has_ended facts.calendar (is_finished facts.matches) g

-- what a gameweek is called
abbrev pub gameweek_name : ℕ → List ℕ
gameweek_name g = codes "Gameweek " ++ decimal g

-- a gameweek with its deadline: what its entries have, by their mean, the greatest and the first who has it; whether it is
-- over; whether it is the last that is locked, the one behind it or the one before it; and what it is called
abbrev pub event_with : ℕ → ℕ → ℤ → Option ℤ → Option ℕ → Bool → Bool → Bool → Bool → List ℕ → Data
event_with g deadline average highest entry over current next previous name = object
    (member (codes "average_entry_score") (integer average)
    (member (codes "data_checked") (boolean over)
    (member (codes "deadline_time") (string (moment_text deadline))
    (member (codes "deadline_time_epoch") (count deadline)
    (member (codes "finished") (boolean over)
    (member (codes "highest_score") (integer_or_null highest)
    (member (codes "highest_scoring_entry") (count_or_null entry)
    (member (codes "id") (count g)
    (member (codes "is_current") (boolean current)
    (member (codes "is_next") (boolean next)
    (member (codes "is_previous") (boolean previous)
    (member (codes "name") (string name)
    no_members))))))))))))

-- so a gameweek of a season of which so many are locked
abbrev pub event_data : ℕ → ℕ → ℤ → Option ℤ → Option ℕ → Bool → ℕ → Data
event_data g deadline average highest entry over locked =
    event_with g deadline average highest entry over (g == locked) (g == locked + 1) (g + 1 == locked) (gameweek_name g)

abbrev pub event_row : Facts → List EntryFacts → ℕ × ℕ → Data
event_row facts entries row =
    let scores = scores_in facts entries row.0 in
    event_data row.0 row.1 (average_score scores) (highest_score scores) (highest_entry scores) (is_over facts row.0) facts.calendar.locked

-- each of them
abbrev pub events_window : Facts → List EntryFacts → Data
events_window facts entries = listed (event_row facts entries) (numbered facts.calendar.deadlines)
