-- How many rows and ties are shown, and that each view may read some.
use Rattle.std.proofs.Common.{◌≡◌, ◌≤◌, ◌+◌, ◌*◌, ◌/◌, ◌^◌, true, ℕ, ℤ, zero, suc, List, [], Some, None, length, map, nat_le, if◌then◌else◌, arith, refl, ap, ◌∙◌}
use Rattle.std.specs.List.{range_with_len, sum_by}
use Rattle.std.proofs.lemmas.List.{length-map}
use Rattle.std.proofs.lemmas.List.Sorted.{length_permutation}
use Rattle.std.specs.Option.{option_map_or}
use Rattle.std.proofs.lemmas.List.FromFn.{sum_by-map-range_with_len_more}
use Rattle.std.proofs.lemmas.List.Sums.{sum_by-cons}
use Rattle.rule_book.specs.ClassicTable.{ranked}
use Rattle.rule_book.specs.CupRounds.{locked_winners, rounds_of, rounds_shown, winners_of}
use Rattle.rule_book.specs.HeadToHead.{head_ranked}
use Rattle.rule_book.specs.LeagueRows.{classic_row, head_row, head_rows}
use Rattle.rule_book.specs.Leagues.{LeagueFacts}
use Rattle.rule_book.specs.Tables.{classic_table_of, head_table_of}
use Rattle.rule_book.specs.declared.cup.Bracket.{Bracket}
use Rattle.rule_book.specs.declared.cup.Side.{Side}
use Rattle.rule_book.specs.declared.league.LeagueKind.TheVariants as kind
use Rattle.rule_book.specs.declared.tables.HeadRanked.{HeadRanked}
use Rattle.rule_book.specs.declared.tables.HeadScore.{HeadScore}
use Rattle.rule_book.specs.declared.tables.Ranked.{Ranked}
use Rattle.rule_book.proofs.OrderFacts.{in_order_moves}
use Rattle.season_book.specs.Book.{EntryFacts, Facts}
use Rattle.season_book.specs.LeagueViews.{classic_rows_by, classic_shown, counted_of, first_of, head_ranked_shown, head_shown, league_shown, league_shown_as, net_in, ranked_shown}
use Rattle.season_book.specs.declared.answer.Answer.{Answer}
use Rattle.season_book.specs.declared.answer.Answer.TheVariants as answer
use Rattle.season_book.specs.declared.shown.Shown.{Shown}
use Rattle.season_book.specs.declared.shown.Shown.TheVariants as shown
use Rattle.season_views.specs.Reads.{reads_allowed, reads_of, ties_of}

-- a table has a row for each member
pub classic_long : (facts : Facts) (entries : List EntryFacts) (league : LeagueFacts) → length (classic_shown facts entries league).rows ≡ length league.members
classic_long facts entries league =
    let rows : List (ℕ × ℤ × ℕ) = classic_rows_by facts entries league in
    length-map (classic_table_of rows) (ranked_shown entries)
    ∙ length_permutation (map (ranked rows) rows) (classic_table_of rows) (in_order_moves (λ (row : Ranked). (row.rank, row.entry)) (map (ranked rows) rows))
    ∙ length-map rows (ranked rows)
    ∙ length-map league.members (classic_row (net_in facts entries) (first_of entries) (counted_of facts entries) facts.calendar.locked league)

pub head_long : (facts : Facts) (entries : List EntryFacts) (league : LeagueFacts) → length (head_shown facts entries league).rows ≡ length league.members
head_long facts entries league =
    let rows : List (ℕ × HeadScore) = head_rows (net_in facts entries) facts.calendar.locked league in
    length-map (head_table_of rows) (head_ranked_shown entries)
    ∙ length_permutation (map (head_ranked rows) rows) (head_table_of rows) (in_order_moves (λ (row : HeadRanked). (row.rank, row.entry)) (map (head_ranked rows) rows))
    ∙ length-map rows (head_ranked rows)
    ∙ length-map league.members (head_row (net_in facts entries) facts.calendar.locked league)

-- so many reads of each member are those of each row
pub classic_read : (facts : Facts) (entries : List EntryFacts) (league : LeagueFacts) (start after : ℕ) → league.kind ≡ kind.Classic → after ≤ start + 2 * length league.members → after ≤ start + reads_of (league_shown facts entries league)
classic_read facts entries league start after is read =
    let is_read : reads_of (league_shown facts entries league) ≡ 3 * length (classic_shown facts entries league).rows + 8 = ap (λ k. reads_of (league_shown_as k facts entries league)) is in
    let long = classic_long facts entries league in
    omega (arith, is_read, long, read)

pub head_read : (facts : Facts) (entries : List EntryFacts) (league : LeagueFacts) (start after : ℕ) → league.kind ≡ kind.Head → after ≤ start + length league.members → after ≤ start + reads_of (league_shown facts entries league)
head_read facts entries league start after is read =
    let is_read : reads_of (league_shown facts entries league) ≡ 3 * length (head_shown facts entries league).rows + 8 = ap (λ k. reads_of (league_shown_as k facts entries league)) is in
    let long = head_long facts entries league in
    omega (arith, is_read, long, read)

-- a cup shows no fewer ties in more rounds
pub sum_grows : {X : Type 0} (weight : X → ℕ) (f : ℕ → X) (a k n : ℕ) → k ≤ n → sum_by weight (map f (range_with_len a k)) ≤ sum_by weight (map f (range_with_len a n))
sum_grows weight f a zero n le = let none : sum_by weight [] ≡ 0 = refl in omega (arith, none)
sum_grows weight f a (suc k) zero le = absurd (omega (arith, le))
sum_grows weight f a (suc k) (suc n) le =
    let rest = sum_grows weight f (a + 1) k n (omega (arith, le)) in
    let left = sum_by-cons weight (f a) (map f (range_with_len (a + 1) k)) in
    let right = sum_by-cons weight (f a) (map f (range_with_len (a + 1) n)) in
    omega (arith, rest, left, right)

-- the ties of the first rounds of a cup
abbrev pub ties_until : Bracket → (ℕ → ℕ → Side) → ℕ → ℕ → ℕ
ties_until b side locked round = ties_of (map (locked_winners b side locked) (range_with_len 1 round))

module _ (b : Bracket) (side : ℕ → ℕ → Side) (locked : ℕ) where
  -- one read for each tie of a locked round
  pub locked_read : (round start reads : ℕ) → nat_le (b.start + round) (locked + 1) ≡ true → length (winners_of b side round) ≡ length b.slots / 2 ^ round
      → reads ≤ start + length b.slots / 2 ^ round → reads ≤ start + option_map_or length (locked_winners b side locked round) 0
  locked_read round start reads played long read =
      let one : option_map_or length (locked_winners b side locked round) 0 ≡ length (winners_of b side round) =
      ap (λ t. option_map_or length (if t then Some (winners_of b side round) else None) 0) played in
      omega (arith, one, long, read)

  -- the reads for the ties of the first rounds, and those for the ties of a next one
  pub round_read : (round start old new : ℕ) → old ≤ start + ties_until b side locked round → new ≤ old + option_map_or length (locked_winners b side locked (round + 1)) 0
      → new ≤ start + ties_until b side locked (round + 1)
  round_read round start old new before after =
      let more = sum_by-map-range_with_len_more (λ winners. option_map_or length winners 0) (locked_winners b side locked) 1 round (round + 1) (omega arith) in
      omega (arith, before, after, more)

  -- they are no more than one for each tie that is shown
  pub rounds_read : (round start reads : ℕ) → round ≤ rounds_of b → reads ≤ start + ties_until b side locked round → reads ≤ start + ties_of (rounds_shown b side locked)
  rounds_read round start reads few before =
      let most = sum_grows (λ winners. option_map_or length winners 0) (locked_winners b side locked) 1 round (rounds_of b) few in
      omega (arith, before, most)

-- one for each tie is fewer than are allowed
pub ties_read : (start reads ties : ℕ) → reads ≤ start + ties → reads ≤ start + (3 * ties + 8)
ties_read start reads ties before = omega (arith, before)

-- whatever is shown, 8 reads may be made
eight_of : (s : Shown) → 8 ≤ reads_of s
eight_of (shown.Season x) = omega arith
eight_of (shown.Player x) = omega arith
eight_of (shown.PlayerGameweek x) = omega arith
eight_of (shown.Fixture x) = omega arith
eight_of (shown.Me x) = omega arith
eight_of (shown.EntryGameweek x) = omega arith
eight_of (shown.Classic x) = omega arith
eight_of (shown.Head x) = omega arith
eight_of (shown.Cup x) = omega arith
eight_of (shown.Page x) = omega arith

pub eight : (a : Answer) → 8 ≤ reads_allowed a
eight (answer.Shown s) = eight_of s
eight (answer.Done number made) = omega arith
eight (answer.Rule rule) = omega arith
eight answer.Unknown = omega arith
eight answer.Keeper = omega arith
eight (answer.Damaged key) = omega arith
eight answer.Memory = omega arith
