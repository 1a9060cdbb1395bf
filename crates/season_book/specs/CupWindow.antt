-- What a window shows of a cup: its rounds with their ties.
use Rattle.std.specs.Prelude.{ℕ, ℤ, ◌+◌, ◌*◌, ◌/◌, ◌^◌, ◌==◌, if◌then◌else◌, List, Option, Some, None, codes, length, slice_index}
use Rattle.std.specs.List.{range_with_len}
use Rattle.std.specs.Option.{option_and_then, option_map}
use Rattle.serde_json.specs.Data.{Data, member, no_members, object}
use Rattle.json_members.specs.Members.{count, count_or_null, integer_or_null}
use Rattle.rule_book.specs.declared.cup.Bracket.{Bracket}
use Rattle.rule_book.specs.Calendar.{is_locked}
use Rattle.rule_book.specs.CupRounds.{locked_winners, rounds_of}
use Rattle.rule_book.specs.Entries.{entry_in}
use Rattle.season_book.specs.Book.{EntryFacts, Facts}
use Rattle.season_book.specs.LeagueViews.{net_in, side_in}
use Rattle.season_book.specs.Windows.{listed}

-- a tie: the two who meet, the points that decide of each, and who goes on
abbrev pub tie_data : Option ℕ → Option ℤ → Option ℕ → Option ℤ → Option ℕ → Data
tie_data one its_points other other_points winner = object
    (member (codes "entry_1") (count_or_null one)
    (member (codes "entry_1_points") (integer_or_null its_points)
    (member (codes "entry_2") (count_or_null other)
    (member (codes "entry_2_points") (integer_or_null other_points)
    (member (codes "winner") (count_or_null winner)
    no_members)))))

-- the entry that has a number; a bye has 0, and is none
abbrev pub entry_of : ℕ → Option ℕ
entry_of e = if e == 0 then None else Some e

-- the entry at a place of those who come to a round; none where it is open who does
abbrev pub comer_at : Option (List ℕ) → ℕ → Option ℕ
comer_at comers place = option_and_then (λ entries. entry_of (slice_index entries place)) comers

-- the points after deductions of one who plays in a gameweek; none while it is open, and where nobody plays
abbrev pub points_of_comer : Facts → List EntryFacts → ℕ → Option ℕ → Option ℤ
points_of_comer facts entries g comer = if is_locked facts.calendar g then option_map (λ e. net_in facts entries e g) comer else None

module _ (facts : Facts) (entries : List EntryFacts) (b : Bracket) where
  -- who goes on from the ties of a round, counted from 1, once its gameweek is locked
  abbrev pub gone_on : ℕ → Option (List ℕ)
  gone_on round = locked_winners b (side_in facts entries) facts.calendar.locked round

  -- who comes to the round after so many rounds: to the first the slots, to another who goes on from the one before it
  abbrev pub comers_to : ℕ → Option (List ℕ)
  comers_to before = if before == 0 then Some b.slots else gone_on before

  -- a tie of the round after so many rounds, between those who come to two places that stand side by side; who goes on
  -- from it is who comes to its place in the next round
  abbrev pub tie_row : ℕ → ℕ → Data
  tie_row before tie =
      let g = b.start + before in
      let one = comer_at (comers_to before) (2 * tie) in
      let other = comer_at (comers_to before) (2 * tie + 1) in
      tie_data one (points_of_comer facts entries g one) other (points_of_comer facts entries g other) (comer_at (comers_to (before + 1)) tie)

  -- the round after so many rounds: its gameweek, and its ties, half as many as come to it
  abbrev pub round_row : ℕ → Data
  round_row before = object
      (member (codes "event") (count (b.start + before))
      (member (codes "ties") (listed (tie_row before) (range_with_len 0 (length b.slots / 2 ^ (before + 1))))
      no_members))

  -- a cup by its number: its rounds, and the gameweek of the first
  abbrev pub cup_data : ℕ → Data
  cup_data c = object
      (member (codes "id") (count c)
      (member (codes "rounds") (listed round_row (range_with_len 0 (rounds_of b)))
      (member (codes "start_event") (count b.start)
      no_members)))

-- the cup of a number; none where there is no such cup
abbrev pub cup_window : Facts → List EntryFacts → List Bracket → ℕ → Option Data
cup_window facts entries cups c = option_map (λ b. cup_data facts entries b c) (entry_in cups c)
