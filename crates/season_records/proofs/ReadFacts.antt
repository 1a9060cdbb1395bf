-- What is read of records has values in their ranges.
use Rattle.std.proofs.Common.{◌≡◌, ℕ, Bool, true, false, cond, List, [], ◌∷◌, Option, Some, None, refl, sym, subst, ◌∙◌}
use Rattle.std.specs.List.{AllByRecursion}
use Rattle.std.specs.Option.{option_and_then}
use Rattle.std.proofs.lemmas.Option.{none-some, same_Some}
use Rattle.fpl_base.specs.Keeping.{is_same_key, map_of}
use Rattle.fpl_base.specs.declared.records.RecordKey.{RecordKey}
use Rattle.season_records.specs.ItemReading.{item_of}
use Rattle.season_records.specs.Keys.{key_of}
use Rattle.season_records.specs.Laws.{IsBytes}
use Rattle.season_records.specs.Ranges.{IsItem}
use Rattle.season_records.proofs.ItemLaws.{item_found}
use Rattle.season_records.specs.Read.{BytesTellItems, HasBytes, RowsTellItems}

pub bytes_tell_items : BytesTellItems
bytes_tell_items m book bytes same s i at = by (m (key_of s)) refl (sym (same s) ∙ at)
  where
    by : (o : Option (List ℕ)) → m (key_of s) ≡ o → option_and_then (item_of (key_of s)) o ≡ Some i → IsItem i
    by None is read = absurd (none-some i read)
    by (Some body) is read = (item_found (key_of s) body i (bytes (key_of s) body is) read).0

-- the body under a key is that of a row
bytes_of_rows : (rows : List (RecordKey × List ℕ)) → AllByRecursion HasBytes rows → (k : RecordKey) (body : List ℕ) → map_of rows k ≡ Some body → IsBytes body
bytes_of_rows [] each k body at = absurd (none-some body at)
bytes_of_rows (row ∷ rows) each k body at = by (is_same_key row.0 k) at (bytes_of_rows rows each.1 k body)
  where
    by : (b : Bool) → cond b (Some row.1) (map_of rows k) ≡ Some body → (map_of rows k ≡ Some body → IsBytes body) → IsBytes body
    by true at more = subst IsBytes (same_Some row.1 body at) each.0
    by false at more = more at

pub rows_tell_items : RowsTellItems
rows_tell_items rows book each = bytes_tell_items (map_of rows) book (bytes_of_rows rows each)
