-- What is due of an entry's transfers, by the sales of its manager.
use Rattle.std.proofs.Common.{◌≡◌, ◌∙◌, ◌≤◌, ◌<◌, ◌+◌, ◌-◌, ◌==◌, ◌||◌, ℕ, Bool, true, false, List, Option, Some, None, nat_lt, if◌then◌else◌, arith, sym, ap}
use Rattle.std.specs.List.{slice_get}
use Rattle.std.specs.Option.{option_and_then, option_map}
use Rattle.std.proofs.lemmas.Bool.Decides.{nat_tests}
use Rattle.std.proofs.lemmas.Option.{none-some, same_Some}
use Rattle.rule_book.specs.declared.transfers.Sale.{Sale}
use Rattle.rule_book.specs.EntryRecords.{sales_in}
use Rattle.rule_book.specs.Entries.{entry_in}
use Rattle.rule_book.specs.Totals.{gameweeks}
use Rattle.rule_book.specs.UpTo.{start_of}
use Rattle.season_book.specs.Book.{EntryFacts, Facts}
use Rattle.season_book.specs.Windows.{listed}
use Rattle.season_entries.specs.Entries.{AreSold}
use Rattle.season_book.specs.TransfersWindow.{latest_of, transfer_row, transfers_data}

module _ (facts : Facts) (e : ℕ) (o : Option EntryFacts) (entry : EntryFacts) (there : o ≡ Some entry) where
  -- those of a registered entry
  pub transfers_due : (first from to : ℕ) (sales : List (ℕ × Sale)) → Some first ≡ start_of entry.history → from ≡ first + 1 → to ≡ facts.calendar.locked → AreSold sales entry.history
      → option_and_then (λ (row : EntryFacts). option_map (transfers_data facts e row.history) (start_of row.history)) o
      ≡ Some (listed (transfer_row e) (latest_of (sales_in sales) (gameweeks from to)))
  transfers_due first from to sales started since until sold =
      let since_is = sym since in
      let until_is = sym until in
      ap (option_and_then (λ (row : EntryFacts). option_map (transfers_data facts e row.history) (start_of row.history))) there
      ∙ ap (option_map (transfers_data facts e entry.history)) (sym started)
      ∙ (λ i. Some (listed (transfer_row e) (latest_of (λ g. sym (sold g) i) (gameweeks (since_is i) (until_is i)))))

  -- nothing of one that is not
  pub none_due : None ≡ start_of entry.history → option_and_then (λ (row : EntryFacts). option_map (transfers_data facts e row.history) (start_of row.history)) o ≡ None
  none_due unstarted =
      ap (option_and_then (λ (row : EntryFacts). option_map (transfers_data facts e row.history) (start_of row.history))) there
      ∙ ap (option_map (transfers_data facts e entry.history)) (sym unstarted)

some_is : (e : ℕ) → (e == 0) ≡ false → 1 ≤ e
some_is e is = grind (arith, nat_tests, is)

few_is : (n e : ℕ) → nat_lt n e ≡ false → e ≤ n
few_is n e is = grind (arith, nat_tests, is)

past_is : (n e : ℕ) → nat_lt n e ≡ true → n < e
past_is n e is = grind (arith, nat_tests, is)

-- the number of an entry that was issued
pub issued_is : (n e id : ℕ) (none past : Bool) → (e == 0) ≡ none → nat_lt n e ≡ past → Some id ≡ (if none || past then None else Some e) → (id ≡ e) × (1 ≤ e) × (e ≤ n)
issued_is n e id true past is_none is_past at = absurd (none-some id (sym at))
issued_is n e id false true is_none is_past at = absurd (none-some id (sym at))
issued_is n e id false false is_none is_past at = (same_Some id e at, some_is e is_none, few_is n e is_past)

-- there is no entry of another
pub none_issued : (entries : List EntryFacts) (n e : ℕ) (none past : Bool) → (e == 0) ≡ none → nat_lt n e ≡ past → None ≡ (if none || past then None else Some e)
    → (n < e → entry_in entries e ≡ None) → entry_in entries e ≡ None
none_issued entries n e true past is_none is_past at law = ap (λ b. if b then None else slice_get entries (e - 1)) is_none
none_issued entries n e false true is_none is_past at law = law (past_is n e is_past)
none_issued entries n e false false is_none is_past at law = absurd (none-some e at)
