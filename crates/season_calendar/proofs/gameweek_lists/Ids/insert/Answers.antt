use Rattle.std.proofs.Common.{rules, arith, ◌≡◌, ◌∙◌, ap, length, cond, ltb}
use Rattle.std.specs.Prelude.{IsOk, vec_len}
use Rattle.std.specs.List.{insert}
use Rattle.std.proofs.lemmas.Fn.{always_returns_same}
use Rattle.std.proofs.lemmas.List.Sorted.{IsPartitionedBy-ltb}
use Rattle.season_calendar.specs.Kept.{ids_with}
use Rattle.season_calendar.proofs.Locks.{never_falls}
use Rattle.season_calendar.proofs.Standing.{ids_with_is}
use Rattle.season_calendar.proofs.gameweek_lists.Ids.insert.Goals as goal

-- there is room, so that the id goes to the place that parts the smaller ids from the others
pub returns : goal.returns
returns c =
    let ids = c.self.inside.items.items in
    let long : vec_len c.self.inside.items ≡ length c.args.self.now = omega (arith, c.deref.ensures.len, ap length c.deref.ensures.value, ap length c.self.view_is) in
    let fits : IsOk c.insert.result = c.insert.ensures.succeeds (omega (arith, long, c.requires.room, c.self.invariant)) in
    let rises = rw (← c.self.view_is) at c.requires.rise in
    let parts = rw c.deref.ensures.value at (c.partition_point-at.ensures.partitioned (λ y. ltb y c.args.f) (always_returns_same _ _ _ (λ a r g called. search rules))) in
    c.insert.ensures.items ∙ (ap (λ b. cond b (insert ids c.partition_point-at.result c.args.f) ids) fits
    ∙ (ids_with_is ids c.args.f c.partition_point-at.result (omega (arith, c.partition_point-at.ensures.bound, ap length c.deref.ensures.value)) (parts (IsPartitionedBy-ltb (λ x. x) ids c.args.f (never_falls ids rises))) ∙ ap (ids_with c.args.f) c.self.view_is))
