-- A writer of comma-separated values between two rows.
use Rattle.std.specs.Prelude.{◌≡◌, ◌++◌, ℕ, List, false, Vec}
use Rattle.std.specs.declared.alloc.Global.{Global}
use Rattle.csv.specs.declared.writer.Writer.{Writer}
use Rattle.csv.specs.Writing.{default_writer, writer_setup, fields_written, has_written, writer_under, writer_pending}

-- it writes in the default form, and has begun no row
abbrev pub IsFresh : Writer (Vec ℕ Global) → Type 0
IsFresh w = (writer_setup w ≡ default_writer) × (fields_written w ≡ 0) × (has_written w ≡ false)

-- what it holds, and what it has yet to put there
abbrev pub held : Writer (Vec ℕ Global) → List ℕ
held w = (writer_under w).items ++ writer_pending w
