-- Records in a list, in the order of their keys.
use Rattle.std.specs.Prelude.{◌≡◌, ◌≤◌, ℕ, true, false, List, length}
use Rattle.std.specs.List.{AllWithin}
use Rattle.fpl_base.specs.declared.records.RecordKey.{RecordKey as Key}
use Rattle.fpl_base.specs.Keeping.{precedes}

-- where the record of a key stands, or would stand: all before it have lesser keys, and none behind it has one
pub record IsPlace (rows : List (Key × List ℕ)) (key : Key) (at : ℕ) : Type 0 where
  pub bound : at ≤ length rows
  pub before : AllWithin (λ row. precedes row.0 key ≡ true) rows 0 at
  pub behind : AllWithin (λ row. precedes row.0 key ≡ false) rows at (length rows)
