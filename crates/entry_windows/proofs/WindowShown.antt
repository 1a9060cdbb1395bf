-- What the window of an entry shows, where it is there.
use Rattle.std.proofs.Common.{◌≡◌, ℕ, List, Option, Some, None, ap, ◌∙◌}
use Rattle.std.specs.Option.{option_and_then, option_map}
use Rattle.serde_json.specs.Data.{Data}
use Rattle.rule_book.specs.Entries.{entry_in}
use Rattle.rule_book.specs.Leagues.{LeagueFacts}
use Rattle.rule_book.specs.UpTo.{start_of}
use Rattle.season_book.specs.Book.{EntryFacts, Facts}
use Rattle.season_book.specs.EntryWindow.{entry_told, entry_window}

module _ (facts : Facts) (entries : List EntryFacts) (leagues : List LeagueFacts) (e : ℕ) where
  abbrev shown : EntryFacts → Option Data
  shown entry = option_map (entry_told facts entries leagues (e, entry)) (start_of entry.history)

  pub entry_is : (row : EntryFacts) (first : ℕ) → entry_in entries e ≡ Some row → start_of row.history ≡ Some first → entry_window facts entries leagues e ≡ Some (entry_told facts entries leagues (e, row) first)
  entry_is row first at start = ap (option_and_then shown) at ∙ ap (option_map (entry_told facts entries leagues (e, row))) start

  pub not_yet : (row : EntryFacts) → entry_in entries e ≡ Some row → start_of row.history ≡ None → entry_window facts entries leagues e ≡ None
  not_yet row at start = ap (option_and_then shown) at ∙ ap (option_map (entry_told facts entries leagues (e, row))) start

  pub no_entry : entry_in entries e ≡ None → entry_window facts entries leagues e ≡ None
  no_entry none = ap (option_and_then shown) none
