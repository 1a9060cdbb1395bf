use Rattle.std.proofs.Common.{◌∙◌, ◌&&◌, ◌||◌, ◌==◌, ap, rules, List, ℕ, Bool, filter, subst, sym}
use Rattle.std.proofs.lemmas.Fn.{always_returns_same}
use Rattle.fpl_base.specs.Keeping.{KeysRise}
use Rattle.fpl_base.specs.declared.records.RecordKey.{RecordKey}
use Rattle.stored_records.specs.Stored.{is_member_of, stands_before}
use Rattle.stored_records.proofs.Found.{kept_between}
use Rattle.stored_records.proofs.Members.{apart, low_first, high_first}
use Rattle.stored_records.proofs.stored.Stored.members.Goals as goal

-- what stands between the two places
abbrev low : ℕ → RecordKey × List ℕ → Bool
low league row = stands_before league row.0

abbrev high : ℕ → RecordKey × List ℕ → Bool
high league row = stands_before league row.0 || row.0.kind == 10 && row.0.a == league

pub returns : goal.returns
returns c =
    let l = c.args.league in
    let rows = c.as_slice-rows.result.now in
    let is = c.as_slice-rows.ensures.rows in
    let rise = subst KeysRise (sym is) c.as_slice-rows.ensures.rise in
    let first = c.partition_point-first.ensures.partitioned (low l) (always_returns_same _ _ _ (λ a r g called. search rules)) (low_first rows l rise) in
    let end = c.partition_point-end.ensures.partitioned (high l) (always_returns_same _ _ _ (λ a r g called. search rules)) (high_first rows l rise) in
    c.cut.ensures
    ∙ (kept_between (low l) (high l) (is_member_of l) rows c.partition_point-first.result c.partition_point-end.result (λ x. apart x.0 l) first end
    ∙ ap (filter (is_member_of l)) is)
