-- What is shown of an entry's gameweeks, where it is there.
use Rattle.std.proofs.Common.{◌≡◌, ◌<◌, ◌≤◌, ◌-◌, ◌==◌, ◌&&◌, ◌||◌, ℕ, Bool, true, false, List, Option, Some, None, nat_le, nat_lt, arith, refl, sym, ap, ◌∙◌, if◌then◌else◌}
use Rattle.std.specs.List.{slice_get}
use Rattle.std.specs.Option.{option_and_then}
use Rattle.std.proofs.lemmas.Bool.Decides.{nat_tests}
use Rattle.std.proofs.lemmas.Option.{cond_some, none-some, same_Some}
use Rattle.serde_json.specs.Data.{Data}
use Rattle.rule_book.specs.Calendar.{is_locked}
use Rattle.rule_book.specs.Entries.{entry_in}
use Rattle.rule_book.specs.HistoryTeam.{is_begun}
use Rattle.season_book.specs.Book.{EntryFacts, Facts}
use Rattle.season_book.specs.EntryViews.{has_scored}
use Rattle.season_book.specs.EntryRows.{EntryRow, entry_row_of}
use Rattle.season_book.specs.PicksWindow.{picks_data, picks_if_begun, picks_of, picks_window}
use Rattle.entry_windows.specs.declared.shapes.Played.{Played}
use Rattle.entry_windows.specs.Told.{played_by}

absent_case : (entries : List EntryFacts) (n e : ℕ) (none past : Bool) → (e == 0) ≡ none → nat_lt n e ≡ past → (n < e → entry_in entries e ≡ None)
    → None ≡ (if none || past then None else Some e) → entry_in entries e ≡ None
absent_case entries n e true past is_none is_past behind at = ap (λ b. if b then None else slice_get entries (e - 1)) is_none
absent_case entries n e false true is_none is_past behind at = behind (grind (arith, nat_tests, is_past))
absent_case entries n e false false is_none is_past behind at = absurd (none-some e at)

-- an entry that was not issued is not there
pub absent : (entries : List EntryFacts) (n e : ℕ) → (n < e → entry_in entries e ≡ None) → None ≡ (if e == 0 || nat_lt n e then None else Some e) → entry_in entries e ≡ None
absent entries n e behind at = absent_case entries n e (e == 0) (nat_lt n e) refl refl behind at

-- one that was issued is one of so many
pub record IsOneOf (n e there : ℕ) : Type 0 where
  pub same : there ≡ e
  pub one : 1 ≤ e
  pub few : e ≤ n

one_case : (n e there : ℕ) (none past : Bool) → (e == 0) ≡ none → nat_lt n e ≡ past → Some there ≡ (if none || past then None else Some e) → IsOneOf n e there
one_case n e there true past is_none is_past at = absurd (none-some there (sym at))
one_case n e there false true is_none is_past at = absurd (none-some there (sym at))
one_case n e there false false is_none is_past at =
    record { same = same_Some there e at; one = grind (arith, nat_tests, is_none); few = grind (arith, nat_tests, is_past) }

pub one_of : (n e there : ℕ) → Some there ≡ (if e == 0 || nat_lt n e then None else Some e) → IsOneOf n e there
one_of n e there at = one_case n e there (e == 0) (nat_lt n e) refl refl at

begun_alone : (there locked begun : Bool) → (there && locked) ≡ true → (there && (locked && begun)) ≡ begun
begun_alone true true begun is = refl
begun_alone true false begun is = cc
begun_alone false locked begun is = cc

never : (there locked begun : Bool) → (there && locked) ≡ false → (there && (locked && begun)) ≡ false
never true true begun is = cc
never true false begun is = refl
never false locked begun is = refl

module _ (facts : Facts) (entries : List EntryFacts) (e g : ℕ) where
  abbrev shown_of : EntryFacts → Option Data
  shown_of entry = if has_scored facts entry.history g then Some (picks_of facts entries (e, entry) g) else None

  pub no_picks : entry_in entries e ≡ None → picks_window facts entries e g ≡ None
  no_picks none = ap (option_and_then shown_of) none

  open_case : (o : Option EntryFacts) → (nat_le 1 g && is_locked facts.calendar g) ≡ false → option_and_then shown_of o ≡ None
  open_case None open_still = refl
  open_case (Some entry) open_still =
      ap (λ b. if b then Some (picks_of facts entries (e, entry) g) else None) (never (nat_le 1 g) (is_locked facts.calendar g) (is_begun entry.history g) open_still)

  pub no_picks_yet : (nat_le 1 g && is_locked facts.calendar g) ≡ false → picks_window facts entries e g ≡ None
  no_picks_yet open_still = open_case (entry_in entries e) open_still

  pub picks_are : (row : EntryFacts) → entry_in entries e ≡ Some row → (nat_le 1 g && is_locked facts.calendar g) ≡ true → picks_if_begun facts entries (e, row) g ≡ picks_window facts entries e g
  picks_are row at is =
      ap (λ b. if b then Some (picks_of facts entries (e, row) g) else None) (sym (begun_alone (nat_le 1 g) (is_locked facts.calendar g) (is_begun row.history g) is))
      ∙ ap (option_and_then shown_of) (sym at)

-- an entry's gameweek is written as it is shown
pub picks_told : (facts : Facts) (entries : List EntryFacts) (e g : ℕ) (row : EntryFacts) (played : Played) (told : EntryRow)
    → Some played ≡ (if is_begun row.history g then Some (played_by facts row.history g) else None) → told ≡ entry_row_of facts entries (e, row) g
    → picks_if_begun facts entries (e, row) g ≡ Some (picks_data e played.team played.score told)
picks_told facts entries e g row played told begun is =
    let there = cond_some (is_begun row.history g) (played_by facts row.history g) played (sym begun) in
    ap (λ b. if b then Some (picks_of facts entries (e, row) g) else None) there.0
    ∙ (λ i. Some (picks_data e (there.1 i).team (there.1 i).score (sym is i)))

-- nothing is shown of a gameweek before the first
pub none_before : (facts : Facts) (entries : List EntryFacts) (e g : ℕ) (row : EntryFacts) → is_begun row.history g ≡ false → picks_if_begun facts entries (e, row) g ≡ None
none_before facts entries e g row early = ap (λ b. if b then Some (picks_of facts entries (e, row) g) else None) early
