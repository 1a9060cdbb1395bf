-- What an edit at a fixture's place does to the entries of a table.
use Rattle.std.proofs.Common.{ℕ, ◌+◌, ◌≡◌, List, [], set, arith, refl, sym, subst, ◌∙◌}
use Rattle.std.specs.BTreeMap.{insert_entry, is_at}
use Rattle.std.specs.List.{zip, insert, remove}
use Rattle.std.specs.List.Sorted.{IsStrictlySortedBy}
use Rattle.std.specs.Map.{remove_entry, set_value, lookup}
use Rattle.std.specs.Ordering.{nat_cmp}
use Rattle.std.proofs.lemmas.List.{length-set}
use Rattle.std.proofs.lemmas.List.Edits.{length-insert, length-remove}
use Rattle.std.proofs.lemmas.Map.Keys.{sorted_from_strictly_increasing}
use Rattle.std.proofs.lemmas.Map.Made.{keys_of-zip}
use Rattle.rule_book.specs.MatchFacts.{Sheet}
use Rattle.match_facts.specs.Columns.{IsPlace, IsGap}
use Rattle.rule_book.specs.ById.{AreSorted}
use Rattle.match_facts.specs.Tables.{IsTable}
use Rattle.match_facts.proofs.ColumnLemmas.{line_here, zip-set, zip-insert, zip-remove, zip-gap, ascending-insert, ascending-remove}
use Rattle.rule_book.proofs.Placed.{placed-insert_entry, placed-remove_entry, placed-set_value, at_id-lookup}
use Rattle.match_facts.proofs.SheetEntries.{is_some_found}

pub empty_table : IsTable [] []
empty_table = record { ascending = λ i j lt within. absurd (omega arith); paired = refl }

module _ (fixtures : List ℕ) (sheets : List Sheet) (table : IsTable fixtures sheets) where
  -- the entries are sorted
  pub sorted_table : AreSorted (zip fixtures sheets)
  sorted_table =
      subst (IsStrictlySortedBy nat_cmp) (sym (keys_of-zip fixtures sheets table.paired))
      (sorted_from_strictly_increasing fixtures (λ k within. table.ascending k (k + 1) (omega arith) within))

  module _ (fixture at : ℕ) where
    -- a sheet written at the place of its fixture
    pub table_set : (sheet : Sheet) → IsPlace fixtures fixture at → IsTable fixtures (set sheets at sheet)
    table_set sheet place = record { ascending = table.ascending; paired = length-set sheets at sheet ∙ table.paired }

    pub set_sheet : (sheet : Sheet) → IsPlace fixtures fixture at → zip fixtures (set sheets at sheet) ≡ insert_entry nat_cmp (zip fixtures sheets) fixture sheet
    set_sheet sheet place =
        zip-set fixtures sheets fixture at sheet table.ascending table.paired place
        ∙ sym (placed-insert_entry (zip fixtures sheets) fixture sheet sorted_table)

    -- written there through a borrow
    pub write_sheet : (sheet : Sheet) → IsPlace fixtures fixture at → zip fixtures (set sheets at sheet) ≡ set_value (is_at (nat_cmp fixture)) (zip fixtures sheets) sheet
    write_sheet sheet place =
        let there = line_here fixtures sheets fixture at sheet table.ascending table.paired place in
        let found = is_some_found (lookup (is_at (nat_cmp fixture)) (zip fixtures sheets)) _ (sym (at_id-lookup (zip fixtures sheets) fixture ∙ there)) in
        zip-set fixtures sheets fixture at sheet table.ascending table.paired place
        ∙ sym (placed-set_value (zip fixtures sheets) fixture sheet sorted_table found)

    -- put in at the place where its fixture goes
    pub table_insert : (sheet : Sheet) → IsGap fixtures fixture at → IsTable (insert fixtures at fixture) (insert sheets at sheet)
    table_insert sheet gap = record {
      ascending = ascending-insert fixtures fixture at gap table.ascending;
      paired = omega (arith, length-insert sheets at sheet (omega (arith, gap.within, table.paired)), length-insert fixtures at fixture gap.within, table.paired);
    }

    pub insert_sheet : (sheet : Sheet) → IsGap fixtures fixture at → zip (insert fixtures at fixture) (insert sheets at sheet) ≡ insert_entry nat_cmp (zip fixtures sheets) fixture sheet
    insert_sheet sheet gap =
        zip-insert fixtures sheets fixture at sheet table.paired gap
        ∙ sym (placed-insert_entry (zip fixtures sheets) fixture sheet sorted_table)

    -- taken away
    pub table_remove : IsPlace fixtures fixture at → IsTable (remove fixtures at) (remove sheets at)
    table_remove place = record {
      ascending = ascending-remove fixtures at place.within table.ascending;
      paired = omega (arith, length-remove sheets at (omega (arith, place.within, table.paired)), length-remove fixtures at place.within, table.paired);
    }

    pub remove_sheet : IsPlace fixtures fixture at → zip (remove fixtures at) (remove sheets at) ≡ remove_entry (is_at (nat_cmp fixture)) (zip fixtures sheets)
    remove_sheet place =
        zip-remove fixtures sheets fixture at table.ascending table.paired place
        ∙ sym (placed-remove_entry (zip fixtures sheets) fixture sorted_table)

    pub keep_sheets : IsGap fixtures fixture at → zip fixtures sheets ≡ remove_entry (is_at (nat_cmp fixture)) (zip fixtures sheets)
    keep_sheets gap =
        zip-gap fixtures sheets fixture at table.paired gap
        ∙ sym (placed-remove_entry (zip fixtures sheets) fixture sorted_table)
