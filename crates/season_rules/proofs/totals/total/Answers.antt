use Rattle.std.proofs.Common.{◌≡◌, ℕ, ℤ, Bool, w32, FitsSigned, to_z, of_z, arith, rules}
use Rattle.std.proofs.lemmas.Int.{ints, to_z-of_z}
use Rattle.season_nodes.specs.BookFacts.{facts_of}
use Rattle.season_nodes.specs.Held.{held_values}
use Rattle.season_nodes.specs.Season.{has_begun, net_held}
use Rattle.season_nodes.specs.declared.nodes.Node.TheVariants as node
use Rattle.season_rules.proofs.TotalFacts.{total_next}
use Rattle.season_rules.proofs.totals.total.Goals as goal

pub loop-place-preserved : goal.loop-place-preserved
loop-place-preserved g c =
    let begun : ℕ → Bool = has_begun (facts_of c.args.books.now) c.args.entry in
    let points : ℕ → ℤ = λ h. net_held (held_values c.args.cells.now (node.TeamGw c.args.entry h)) in
    let place = c.loop-place.place in
    let net : ℤ = c.net_at-total.result in
    let near = c.net_at-total.ensures.near in
    let so_far = c.loop-place.invariant.near in
    let fits : FitsSigned w32 net = search rules in
    let same : to_z w32 (of_z w32 net) ≡ net = to_z-of_z w32 net fits in
    let more = total_next points begun c.args.start place c.counted_at.result (to_z w32 c.loop-place.total-bits) net c.loop-place.invariant.value c.counted_at.ensures c.net_at-total.ensures.value in
    record {
      value = grind (arith, ints, to_z-of_z, same, more, near, so_far);
      near = (omega (arith, ints, near, so_far, same), omega (arith, ints, near, so_far, same));
      cost = omega (arith, c.loop-place.invariant.cost, c.net_at-total.ensures.cost);
    }
