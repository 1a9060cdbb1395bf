-- What a table ends as, once a `&mut` to one of its sheets has ended.
use Rattle.std.specs.Prelude.{ℕ, Option}
use Rattle.std.specs.Borrow.{LendsIf, MutBor, Fml}
use Rattle.std.specs.BTreeMap.{is_at}
use Rattle.std.specs.Map.{set_value}
use Rattle.std.specs.Ordering.{nat_cmp}
use Rattle.rule_book.specs.MatchFacts.{Sheet, MatchFacts}
use Rattle.match_facts.specs.contracts.sheet.Sheet.{the_row as sheet_row}
use Rattle.match_facts.specs.contracts.table.Table.{the_row}

-- the sheet of a fixture is the last one written through r, and where it has none nothing changes
abbrev pub LendsSheet : MutBor MatchFacts → ℕ → Option (MutBor Sheet) → Fml
LendsSheet table fixture r = LendsIf the_row sheet_row table r (set_value (is_at (nat_cmp fixture)) table.now) table.now
