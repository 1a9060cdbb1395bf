-- The records of a kind, and a record that is lawful.
use Rattle.std.specs.Prelude.{ℕ, Bool, List, ◌==◌}
use Rattle.fpl_base.specs.declared.records.RecordKey.{RecordKey}

-- a record is of this kind
abbrev pub is_of_kind : ℕ → RecordKey × List ℕ → Bool
is_of_kind kind row = row.0.kind == kind
