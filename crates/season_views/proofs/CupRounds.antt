-- The winners of a cup by what cells hold are those by the histories of its entries.
use Rattle.std.proofs.Common.{◌≡◌, ◌≤◌, ◌<◌, ◌+◌, ◌*◌, ◌/◌, ◌^◌, ◌==◌, ◌&&◌, ℕ, zero, suc, true, false, List, Option, Some, None, length, nat_le, nat_lt, if◌then◌else◌, arith, refl, sym, ap, ap₂, ◌∙◌}
use Rattle.std.specs.List.{range_with_len}
use Rattle.std.specs.Option.{unwrap_or}
use Rattle.std.proofs.lemmas.Bool.{le-leb}
use Rattle.std.proofs.lemmas.Bool.Decides.{nat_tests}
use Rattle.rule_book.specs.CupRounds.{locked_winners, winners_of}
use Rattle.rule_book.specs.Cups.{coin_after, first_goes_on, goes_through, winner}
use Rattle.rule_book.specs.Entries.{entry_in}
use Rattle.rule_book.specs.Leagues.{LeagueFacts}
use Rattle.rule_book.specs.PlayerFigures.{position_in}
use Rattle.rule_book.specs.Players.{ArePlayers}
use Rattle.rule_book.specs.declared.cup.Bracket.{Bracket}
use Rattle.rule_book.specs.declared.cup.Side.{Side}
use Rattle.season_ledger.specs.Stands.{RowsAlwaysTell}
use Rattle.manager_book.specs.Managers.{Managers, season_of}
use Rattle.season_graph.specs.Told.{side_told, tie_told}
use Rattle.season_nodes.specs.Brackets.{no_bracket, ties_after}
use Rattle.season_nodes.specs.Reading.{map_local}
use Rattle.season_nodes.specs.Season.{SeasonFacts, is_live}
use Rattle.season_nodes.specs.declared.nodes.Node.TheVariants as node
use Rattle.season_book.specs.Book.{EntryFacts, Facts}
use Rattle.season_book.specs.LeagueViews.{side_by, side_in}
use Rattle.season_entries.specs.Entries.{AreEntries}
use Rattle.season_views.specs.Cells.{books_seen}
use Rattle.season_views.proofs.Histories.{in_books}
use Rattle.season_views.proofs.Scores.{side_is}

low_is : (i n : ℕ) → i < n → nat_lt i n ≡ true
low_is i n low = grind (arith, nat_tests, low)

-- what the cell of a tie holds, where its gameweek is locked
pub tie_shown : (b : SeasonFacts) (c r i : ℕ) (bracket : Bracket) → entry_in b.cups c ≡ Some bracket → bracket.start + r ≤ b.calendar.locked → i < length bracket.slots / 2 ^ (r + 1)
    → (if is_live b (node.Tie c r i) then tie_told b c r i else 0) ≡ winner bracket (side_told b) (r + 1) i
tie_shown b c r i bracket at played low =
    let won : ℕ = winner bracket (side_told b) (r + 1) i in
    ap (λ (o : Option Bracket). let x : Bracket = unwrap_or o no_bracket in if nat_le (x.start + r) b.calendar.locked && nat_lt i (ties_after x r) then winner x (side_told b) (r + 1) i else 0) at
    ∙ ap (λ t. if t && nat_lt i (ties_after bracket r) then won else 0) (le-leb (bracket.start + r) b.calendar.locked played)
    ∙ ap (λ t. if true && t then won else 0) (low_is i (ties_after bracket r) low)

-- where two have the same in each gameweek, the same goes on
goes_same : (first second coin : ℕ) (one other : ℕ → Side) → ((e : ℕ) → one e ≡ other e) → goes_through first second one coin ≡ goes_through first second other coin
goes_same first second coin one other same =
    ap₂ (λ x y. if first == 0 then second else (if second == 0 then first else (if first_goes_on x y coin then first else second))) (same first) (same second)

-- where entries have the same in each locked gameweek the winners are the same
module _ (one other : ℕ → ℕ → Side) (locked : ℕ) (same : (e g : ℕ) → 1 ≤ g → g ≤ locked → one e g ≡ other e g) (b : Bracket) (first : 1 ≤ b.start) where
  winner_same : (r i : ℕ) → b.start + r ≤ locked + 1 → winner b one r i ≡ winner b other r i
  winner_same zero i by = refl
  winner_same (suc r) i by =
      ap₂ (λ x y. goes_through x y (λ e. one e (b.start + r)) (coin_after b r i)) (winner_same r (2 * i) (omega (arith, by))) (winner_same r (2 * i + 1) (omega (arith, by)))
      ∙ goes_same (winner b other r (2 * i)) (winner b other r (2 * i + 1)) (coin_after b r i) (λ e. one e (b.start + r)) (λ e. other e (b.start + r))
      (λ e. same e (b.start + r) (omega (arith, first)) (omega (arith, by)))

  winners_same : (r : ℕ) → b.start + r ≤ locked + 1 → winners_of b one r ≡ winners_of b other r
  winners_same r by =
      map_local (winner b one r) (winner b other r) (range_with_len 0 (length b.slots / 2 ^ r)) (λ i a. winner_same r i by)

module _ (facts : Facts) (managers : Managers) (leagues : List LeagueFacts) (cups : List Bracket) (entries : List EntryFacts) (players : ArePlayers facts.players) (tell : RowsAlwaysTell)
    (profile : managers.profile ≡ facts.profile) (are : AreEntries facts.players managers.managers entries) where
  -- what an entry has by cells is what its history has; there is no entry 0, who would have nothing
  sides_are : (e g : ℕ) → 1 ≤ g → g ≤ facts.calendar.locked → side_told (books_seen facts managers leagues cups) e g ≡ side_in facts entries e g
  sides_are zero g one by = refl
  sides_are (suc e) g one by =
      let issued : 1 ≤ suc e = omega arith in
      in_books facts managers (suc e) (λ h. side_told (books_seen facts managers leagues cups) (suc e) g ≡ side_by facts h g) players issued
      (λ h stands. side_is facts managers leagues cups (suc e) h issued (tell (position_in facts.players) (season_of managers (suc e)) h stands) profile g one by) entries are

  -- and so the winners of a round in a locked gameweek
  pub winners_are : (b : Bracket) (r : ℕ) → 1 ≤ b.start → b.start + r ≤ facts.calendar.locked
      → winners_of b (side_told (books_seen facts managers leagues cups)) (r + 1) ≡ winners_of b (side_in facts entries) (r + 1)
  winners_are b r first by =
      winners_same (side_told (books_seen facts managers leagues cups)) (side_in facts entries) facts.calendar.locked sides_are b first (r + 1) (omega (arith, by))

-- a round that is locked is shown, and one that is open is not
pub locked_shown : (b : Bracket) (side : ℕ → ℕ → Side) (locked round : ℕ) (winners : List ℕ) → nat_le (b.start + round) (locked + 1) ≡ true → winners ≡ winners_of b side round
    → Some winners ≡ locked_winners b side locked round
locked_shown b side locked round winners is won =
    ap Some won ∙ ap (λ t. if t then Some (winners_of b side round) else None) (sym is)

pub open_shown : (b : Bracket) (side : ℕ → ℕ → Side) (locked round : ℕ) → nat_le (b.start + round) (locked + 1) ≡ false → None ≡ locked_winners b side locked round
open_shown b side locked round is = ap (λ t. if t then Some (winners_of b side round) else None) (sym is)

-- a round of an open gameweek
pub not_by : (a b : ℕ) → nat_le a b ≡ false → b < a
not_by a b is = grind (arith, nat_tests, is)
