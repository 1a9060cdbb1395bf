use Rattle.std.proofs.Common.{◌≡◌, ℤ, w32, FitsSigned, to_z, of_z, sym, subst, ◌∙◌, arith, rules}
use Rattle.std.proofs.lemmas.Int.{to_z-of_z}
use Rattle.rule_book.specs.FigureRange.{IsWithin}
use Rattle.season_nodes.specs.BookFacts.{facts_of}
use Rattle.season_nodes.specs.Held.{held_values}
use Rattle.season_nodes.specs.Season.{net_by}
use Rattle.season_rules.proofs.Lists.{all_more, mapped_more}
use Rattle.season_rules.proofs.heads.nets_of.Goals as goal

pub loop-entry-preserved : goal.loop-entry-preserved
loop-entry-preserved g c =
    let b = facts_of c.args.books.now in
    let v = held_values c.args.cells.now in
    let old = c.loop-entry.nets.items in
    let new = c.push.new.self.items in
    let net : ℤ = to_z w32 (of_z w32 c.net_of.result) in
    let fits : FitsSigned w32 c.net_of.result = search rules in
    let same : net ≡ c.net_of.result = to_z-of_z w32 c.net_of.result fits in
    record {
      value = mapped_more (λ e. net_by b v e c.args.gameweek) c.args.order.now c.loop-entry.entry-index c.entry-item.result net old new c.loop-entry-test.true c.entry-item.is
          (same ∙ c.net_of.ensures.value) c.loop-entry.invariant.value c.in_ok-push.ensures.items;
      near = all_more (IsWithin 18000000) net old new c.loop-entry.invariant.near (subst (IsWithin 18000000) (sym same) c.net_of.ensures.near) c.in_ok-push.ensures.items;
      cost = omega (arith, c.loop-entry.invariant.cost, c.net_of.ensures.cost);
    }
