use Rattle.std.proofs.Common.{◌≡◌, ◌≤◌, ◌+◌, reverse}
use Rattle.std.specs.Prelude.{vec_len, vec_capacity}
use Rattle.fpl_base.specs.Keeping.{KeysRise, applied, map_of}
use Rattle.test_doubles.proofs.kept.apply_backwards.Given as goal

abbrev pub invariant-loop-change : goal.invariant-loop-change
invariant-loop-change l =
    (applied (map_of l.rows.items) (reverse l.changes.items) ≡ applied (map_of l.fn.rows.items) (reverse l.fn.changes.items))
    × (KeysRise l.rows.items × (vec_len l.rows + vec_len l.changes ≤ vec_capacity l.rows))

abbrev pub decreases-loop-change : goal.decreases-loop-change
decreases-loop-change l = vec_len l.changes
