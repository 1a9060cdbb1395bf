-- What is committed of the slots of a running season.
use Rattle.std.specs.Prelude.{◌≡◌, ℕ, List, [], Option, IfSome}
use Rattle.std.specs.List.{AllByRecursion}
use Rattle.fpl_base.specs.declared.records.Op.{Op}
use Rattle.season_book.specs.Book.{Facts, Last}
use Rattle.season_records.specs.Ranges.{IsItem}
use Rattle.season_records.specs.declared.item.Item.{Item}
use Rattle.season_records.specs.declared.slot.Slot.{Slot}
use Rattle.season_records.specs.Records.{told_in}
use Rattle.season_records.specs.Touched.{batch, op_of}
use Rattle.season_running.specs.Standing.{Running, host_rows}
use Rattle.record_changes.specs.RowsTold.{told_by}

-- what a running season, or none, tells of a slot
abbrev pub told_of : Option Running → List (ℕ × Last) → Slot → Option Item
told_of running lasts s = told_by (host_rows [] running lasts) s

-- what is committed of slots
abbrev pub batch_by : Option Running → List (ℕ × Last) → List Slot → List Op
batch_by running lasts slots = batch (told_of running lasts) slots

-- what is kept of a slot of which this is told, whose values are in their ranges
abbrev pub Keeps : Slot → Option Item → Op → Type 0
Keeps s told op = (op ≡ op_of s told) × IfSome told IsItem

-- the same by the facts, and by a running season, or none
abbrev pub KeepsOfFacts : Facts → Slot → Op → Type 0
KeepsOfFacts facts s op = Keeps s (told_in facts s) op

abbrev pub KeepsBy : Option Running → List (ℕ × Last) → Slot → Op → Type 0
KeepsBy running lasts s op = Keeps s (told_of running lasts s) op

-- what is told of a slot has values in their ranges, and so it is with each of some slots
abbrev pub IsToldInRange : Option Running → List (ℕ × Last) → Slot → Type 0
IsToldInRange running lasts s = IfSome (told_of running lasts s) IsItem

abbrev pub AreToldInRange : Option Running → List (ℕ × Last) → List Slot → Type 0
AreToldInRange running lasts slots = AllByRecursion (IsToldInRange running lasts) slots
