-- What the rules read of a lawful book's records.
use Rattle.std.proofs.Common.{◌≡◌, ◌<◌, ◌≤◌, ◌+◌, ◌-◌, ◌==◌, ◌&&◌, ℕ, zero, suc, Bool, true, false, not, List, [], Option, Some, None, length, nat_le, arith, refl, sym, ap, ◌∙◌, inl, inr}
use Rattle.std.specs.Prelude.{is_some}
use Rattle.std.specs.List.{list_all, list_any, range_with_len}
use Rattle.std.specs.Option.{option_and_then, option_map, option_map_or}
use Rattle.std.proofs.lemmas.Bool.{cases_eq, not-false}
use Rattle.std.proofs.lemmas.Bool.Decides.{nat_tests}
use Rattle.std.proofs.lemmas.List.FromFn.{length-range_with_len}
use Rattle.fpl_base.specs.Keeping.{KeysRise, Map, map_of}
use Rattle.rule_book.specs.Entries.{entry_in}
use Rattle.rule_book.specs.UpTo.{start_of}
use Rattle.season_book.specs.Book.{Book, EntryFacts, Facts}
use Rattle.season_book.specs.LeagueCommands.{is_issued, is_registered}
use Rattle.season_book.specs.LeagueViews.{first_of}
use Rattle.season_records.specs.declared.item.Item.{Item}
use Rattle.season_records.specs.declared.slot.Slot.{Slot}
use Rattle.season_records.specs.declared.slot.Slot.TheVariants as slot
use Rattle.season_records.specs.Records.{entry_item, records, told, told_in}
use Rattle.season_records.specs.Told.{TellsItems}
use Rattle.stored_records.specs.EntryTold.{first_in, first_told}
use Rattle.stored_records.specs.SeasonRules.{is_full, misses}
use Rattle.stored_records.specs.Stored.{Rows, deadlines_in, deadlines_told, has_gameweek, is_there, told as told_of}
use Rattle.store_validation.specs.LeagueRules.{has_gap, is_registered as is_told_registered, plays_from as plays_told}
use Rattle.lawful_books.specs.Telling.{IsFamily}
use Rattle.lawful_books.proofs.Families.{none_is_full}
use Rattle.lawful_books.proofs.Telling.{records_are_there, records_are_told}
use Rattle.lawful_books.specs.Leagues.{plays_from}
use Rattle.lawful_books.proofs.Grown.{issued_registered, registered_first, registered_plays}
use Rattle.lawful_books.proofs.Numbers.{found_from_one, found_within, mapped_some, numbered_there, some_mapped, there_is}
use Rattle.lawful_books.proofs.Tests.{none_fails}

-- the numbers from one on
pub in_range : (a k n : ℕ) → a ≤ n → n < a + k → list_any (λ id. id == n) (range_with_len a k) ≡ true
in_range a zero n ge lt = absurd (omega (arith, ge, lt))
in_range a (suc k) n ge lt = elim (cases_eq a n) [
  | inl same ↦ grind (arith, nat_tests, same)
  | inr other ↦ let more = in_range (a + 1) k n (omega (arith, ge, other)) (omega (arith, lt)) in grind (arith, nat_tests, more)
]

module _ (book : Book) (facts : Facts) (rows : Rows) (items : TellsItems book) (season : book.facts ≡ Some facts) (rise : KeysRise rows) (same : map_of rows ≡ records book) where
  -- what is there, and what is told
  pub there : (s : Slot) → is_there (map_of rows) s ≡ is_some (told book s)
  there s = ap (λ (m : Map). is_there m s) same ∙ records_are_there book s

  pub told_same : (s : Slot) → told_of (map_of rows) s ≡ told book s
  told_same s = ap (λ (m : Map). told_of m s) same ∙ records_are_told book s (items s)

  pub not_missed : (s : Slot) → is_some (told book s) ≡ true → misses (map_of rows) s ≡ false
  not_missed s is = ap not (there s ∙ is)

  -- the season
  pub season_there : misses (map_of rows) slot.Season ≡ false
  season_there = not_missed slot.Season (ap (λ o. is_some (option_and_then (λ facts. told_in facts slot.Season) o)) season)

  pub deadlines_same : deadlines_told (map_of rows) ≡ facts.calendar.deadlines
  deadlines_same = ap deadlines_in (told_same slot.Season ∙ ap (option_and_then (λ facts. told_in facts slot.Season)) season)

  pub gameweek_there : (g : ℕ) → 1 ≤ g → g ≤ length facts.calendar.deadlines → not (has_gameweek (map_of rows) g) ≡ false
  gameweek_there g ge le = ap (λ (ds : List ℕ). not (nat_le 1 g && nat_le g (length ds))) deadlines_same ∙ grind (arith, nat_tests, ge, le)

  -- the entries
  pub first_same : (e : ℕ) → first_told (map_of rows) e ≡ first_of book.entries e
  first_same e = ap first_in (told_same (slot.Entry e)) ∙ of_entry (entry_in book.entries e)
    where
      of_entry : (o : Option EntryFacts) → first_in (option_map (entry_item e) o) ≡ start_of (option_map_or (λ (entry : EntryFacts). entry.history) o [])
      of_entry None = refl
      of_entry (Some entry) = refl

  pub issued_there : (e : ℕ) → is_issued book.entries e ≡ true → misses (map_of rows) (slot.Entry e) ≡ false
  issued_there e is = not_missed (slot.Entry e) (some_mapped (entry_item e) (entry_in book.entries e) is)

  pub registered_same : (e : ℕ) → is_told_registered (map_of rows) e ≡ is_registered book.entries e
  registered_same e = ap is_some (first_same e) ∙ sym (registered_first book.entries e)

  pub plays_same : (start e : ℕ) → plays_told (map_of rows) start e ≡ plays_from book.entries start e
  plays_same start e = ap (λ o. option_map_or (λ first. nat_le first start) o false) (first_same e)

  -- who plays is issued, and plays by the records
  pub players_issued : (start : ℕ) (es : List ℕ) → list_all (plays_from book.entries start) es ≡ true → list_any (λ e. misses (map_of rows) (slot.Entry e)) es ≡ false
  players_issued start es all =
      none_fails (plays_from book.entries start) (λ e. is_there (map_of rows) (slot.Entry e))
      (λ e plays. not-false (is_there (map_of rows) (slot.Entry e)) (issued_there e (issued_registered book.entries e (registered_plays book.entries start e plays)))) es all

  pub players_play : (start : ℕ) (es : List ℕ) → list_all (plays_from book.entries start) es ≡ true → list_any (λ e. not (plays_told (map_of rows) start e)) es ≡ false
  players_play start es all = none_fails (plays_from book.entries start) (plays_told (map_of rows) start) (λ e plays. plays_same start e ∙ plays) es all

  -- what is numbered from one on has no gap, and room
  module _ {X : Type 0} (family : ℕ → Slot) (item : ℕ → X → Item) (xs : List X) (tells : (n : ℕ) → told book (family n) ≡ option_map (item n) (entry_in xs n)) where
    pub no_gap : (n : ℕ) (x : X) → entry_in xs n ≡ Some x → has_gap (map_of rows) n (family (n - 1)) ≡ false
    no_gap n x at = by (n == 1) refl
      where
        by : (b : Bool) → (n == 1) ≡ b → (not b && misses (map_of rows) (family (n - 1))) ≡ false
        by true is = refl
        by false is =
            not_missed (family (n - 1)) (ap is_some (tells (n - 1)) ∙ some_mapped (item (n - 1)) (entry_in xs (n - 1))
            (numbered_there xs (n - 1) (grind (arith, nat_tests, is, found_from_one xs n x at)) (omega (arith, found_within xs n x at))))

    pub has_room : (most : ℕ) → IsFamily family → length xs ≤ most → (n : ℕ) (x : X) → entry_in xs n ≡ Some x → is_full rows most (family 0) (family n) ≡ false
    has_room most is few n x at =
        none_is_full book rows most family (range_with_len 1 (length xs)) n is rise same
        (λ q i told. let found = there_is (entry_in xs q) (mapped_some (item q) (entry_in xs q) i (sym (tells q) ∙ told)) in among q found.0 found.1)
        (among n x at) (omega (arith, few, length-range_with_len 1 (length xs)))
      where
        among : (q : ℕ) (y : X) → entry_in xs q ≡ Some y → list_any (λ id. id == q) (range_with_len 1 (length xs)) ≡ true
        among q y at = in_range 1 (length xs) q (found_from_one xs q y at) (omega (arith, found_within xs q y at))
