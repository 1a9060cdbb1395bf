use Rattle.std.proofs.Common.{◌≡◌, ◌<◌, ◌+◌, [], ℕ, List, Some, length}
use Rattle.csv.specs.Reading.{Reached, Ready, default_config, source_of, strip_bom}
use Rattle.csv.specs.declared.parser.State.TheVariants as st
use Rattle.csv.specs.declared.reader.Trim.TheVariants as trim
use Rattle.fpl_reports.specs.Rows.{AddAll}
use Rattle.fpl_drafting.specs.Rows.{Adds, AreRowsOf}
use Rattle.fpl_drafting.proofs.rows.draft_rows.Given as goal

abbrev pub invariant-loop-next : goal.invariant-loop-next
invariant-loop-next l = (l.next-iterator.rdr.trim ≡ trim.None) × Ready l.next-iterator.rdr × (0 < l.next-iterator.left) × (l.next-iterator.rdr.config ≡ default_config)
    × (y : List ℕ) × (source_of (λ s. Some s.now) l.next-iterator.rdr ≡ Some y)
    × (records : List (List (List ℕ)))
    × Reached default_config st.StartRecord (strip_bom l.fn.bytes) records l.next-iterator.rdr.state y
    × AddAll (Adds l.members) [] records l.rows.items
    × (l.number ≡ length records + 1)
    × AreRowsOf l.members l.rows.items
