use Rattle.std.proofs.Common.{◌≡◌, ◌∙◌, filter, nat_le, nat_lt, rules, subst, sym, ℕ, Bool, List, []}
use Rattle.std.proofs.lemmas.Fn.{always_returns_same}
use Rattle.fpl_base.specs.Keeping.{KeysRise}
use Rattle.fpl_base.specs.declared.records.RecordKey.{RecordKey}
use Rattle.stored_records.proofs.Found.{kept_between}
use Rattle.season_restoring.specs.Kinds.{is_of_kind}
use Rattle.season_restoring.proofs.KeptRows.{below_first, between_kinds, rise_kept, up_first}
use Rattle.season_restoring.proofs.league_parts.of_kind.Goals as goal

abbrev low : ℕ → RecordKey × List ℕ → Bool
low kind row = nat_lt row.0.kind kind

abbrev high : ℕ → RecordKey × List ℕ → Bool
high kind row = nat_le row.0.kind kind

pub returns : goal.returns
returns c =
    let kind = c.args.kind in
    let rows = c.args.rows.now in
    let first = c.partition_point-first.ensures.partitioned (low kind) (always_returns_same _ _ _ (λ a r g called. search rules)) (below_first rows kind c.requires) in
    let end = c.partition_point-end.ensures.partitioned (high kind) (always_returns_same _ _ _ (λ a r g called. search rules)) (up_first rows kind c.requires) in
    let kept : c.cut.result.now ≡ filter (is_of_kind kind) rows
    = c.cut.ensures ∙ kept_between (low kind) (high kind) (is_of_kind kind) rows c.partition_point-first.result c.partition_point-end.result (λ x. between_kinds x.0.kind kind) first end in
    record { kept = kept; rise = subst KeysRise (sym kept) (rise_kept (λ k. is_of_kind kind (k, [])) rows c.requires) }
