-- What is shown of an entry's gameweeks, where it is registered.
use Rattle.std.proofs.Common.{◌≡◌, ℕ, true, false, List, [], ◌∷◌, Option, Some, None, refl, sym, ap, ◌∙◌, if◌then◌else◌}
use Rattle.std.specs.Option.{option_and_then}
use Rattle.std.proofs.lemmas.Option.{none-some}
use Rattle.serde_json.specs.Data.{Data}
use Rattle.rule_book.specs.Entries.{entry_in}
use Rattle.rule_book.specs.History.{Event}
use Rattle.rule_book.specs.HistoryRules.{is_started}
use Rattle.rule_book.specs.UpTo.{start_of}
use Rattle.season_book.specs.Book.{EntryFacts, Facts}
use Rattle.season_book.specs.HistoryWindow.{history_data, history_window}

started_is : (h : List Event) (first : ℕ) → start_of h ≡ Some first → is_started h ≡ true
started_is [] first start = absurd (none-some first start)
started_is (e ∷ h) first start = refl

not_started : (h : List Event) → start_of h ≡ None → is_started h ≡ false
not_started [] start = refl
not_started (e ∷ h) start = absurd (none-some e.gw (sym start))

module _ (facts : Facts) (entries : List EntryFacts) (e : ℕ) where
  abbrev gameweeks_shown : EntryFacts → Option Data
  gameweeks_shown entry = if is_started entry.history then Some (history_data facts entries (e, entry)) else None

  -- an entry's gameweeks are shown from its first on
  pub history_is : (row : EntryFacts) (first : ℕ) → entry_in entries e ≡ Some row → start_of row.history ≡ Some first → history_window facts entries e ≡ Some (history_data facts entries (e, row))
  history_is row first at start =
      ap (option_and_then gameweeks_shown) at ∙ ap (λ b. if b then Some (history_data facts entries (e, row)) else None) (started_is row.history first start)

  pub no_history_yet : (row : EntryFacts) → entry_in entries e ≡ Some row → start_of row.history ≡ None → history_window facts entries e ≡ None
  no_history_yet row at start =
      ap (option_and_then gameweeks_shown) at ∙ ap (λ b. if b then Some (history_data facts entries (e, row)) else None) (not_started row.history start)

  pub no_history : entry_in entries e ≡ None → history_window facts entries e ≡ None
  no_history none = ap (option_and_then gameweeks_shown) none
