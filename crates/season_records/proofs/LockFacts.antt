-- A moment locks no more gameweeks than have deadlines, so the season that it leaves is told in its ranges.
use Rattle.std.proofs.Common.{◌≡◌, ◌<◌, ◌≤◌, ℕ, Option, Some, None, arith, length, nat_le, refl, ap, subst, max}
use Rattle.std.specs.Option.{option_map, option_and_then}
use Rattle.std.proofs.lemmas.Bool.Decides.{nat_tests}
use Rattle.std.proofs.Math.Nat.{max-le}
use Rattle.std.proofs.lemmas.List.Sums.{count_by-le-length}
use Rattle.std.proofs.lemmas.Option.{none-some, same_Some}
use Rattle.rule_book.specs.Calendar.{passed_deadlines}
use Rattle.season_book.specs.Book.{Book, Facts}
use Rattle.season_book.specs.Verdict.{locked_at, pass}
use Rattle.season_records.specs.Ranges.{IsItem}
use Rattle.season_records.specs.declared.slot.Slot.TheVariants as slot
use Rattle.season_records.specs.Records.{season_item, told_in}
use Rattle.season_records.specs.Told.{TellsItem}
use Rattle.season_records.specs.Touched.{locked_slots}
use Rattle.season_records.specs.Staying.{LockedItemsStay}
use Rattle.season_records.proofs.StayFacts.{locks_stay, rests_tell_items}

locked_below : (now : ℕ) (facts : Facts) → IsItem (season_item facts) → IsItem (season_item (locked_at now facts))
locked_below now facts is =
    let few : length facts.calendar.deadlines ≤ 255 = grind (arith, nat_tests, is.1) in
    let passed : passed_deadlines facts.calendar.deadlines now ≤ length facts.calendar.deadlines = count_by-le-length (λ d. nat_le d now) facts.calendar.deadlines in
    let below : max facts.calendar.locked (passed_deadlines facts.calendar.deadlines now) < 256 =
    let most : max facts.calendar.locked (passed_deadlines facts.calendar.deadlines now) ≤ 255 = max-le (omega (arith, is.0.1)) (omega (arith, few, passed)) in
    omega (arith, most) in
    ((is.0.0, below, is.0.2), is.1)

season_stays : (book : Book) (now : ℕ) → TellsItem book slot.Season → TellsItem (pass book now) slot.Season
season_stays book now item i = by book.facts refl
  where
    by : (some : Option Facts) → book.facts ≡ some → option_and_then (λ facts. told_in facts slot.Season) (option_map (locked_at now) some) ≡ Some i → IsItem i
    by None is at = absurd (none-some i at)
    by (Some facts) is at =
        subst IsItem (same_Some (season_item (locked_at now facts)) i at)
        (locked_below now facts (item (season_item facts) (ap (option_and_then (λ facts. told_in facts slot.Season)) is)))

pub locked_items_stay : LockedItemsStay
locked_items_stay book now items = rests_tell_items locked_slots book (pass book now) (locks_stay book now) items (season_stays book now (items slot.Season), tt)
