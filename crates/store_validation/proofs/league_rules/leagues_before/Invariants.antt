use Rattle.std.proofs.Common.{◌≡◌, ◌-◌}
use Rattle.std.specs.List.{count_by, range_with_len}
use Rattle.fpl_base.specs.Keeping.{map_of}
use Rattle.season_records.specs.declared.slot.Slot.TheVariants as slot
use Rattle.stored_records.specs.Stored.{is_there}
use Rattle.store_validation.proofs.league_rules.leagues_before.Given as goal

abbrev pub invariant-loop-l : goal.invariant-loop-l
invariant-loop-l l = l.count ≡ count_by (λ n. is_there (map_of l.stored) (slot.Member n l.entry)) (range_with_len 1 (l.l - 1))
