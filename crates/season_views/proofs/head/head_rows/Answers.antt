use Rattle.std.proofs.Common.{◌≡◌, ◌<◌, length, get_or, arith, refl, ap, ◌∙◌}
use Rattle.rule_book.specs.LeagueRows.{head_row}
use Rattle.season_graph.specs.Told.{net_told}
use Rattle.season_rules.proofs.Lists.{mapped_more}
use Rattle.season_views.proofs.Lists.{parts_more}
use Rattle.season_views.proofs.Matches.{row_told}
use Rattle.season_views.proofs.head.head_rows.Goals as goal

pub loop-member-preserved : goal.loop-member-preserved
loop-member-preserved g c =
    let league = c.args.league.now in
    let members = c.members-member-items.ensures.value in
    let i = c.loop-member.member-index in
    let e = c.member-item.result in
    let score = c.head_held-score.result in
    let within : i < length league.members = omega (arith, c.loop-member-test.true, ap length members) in
    let is : e ≡ get_or league.members i e = c.member-item.is ∙ ap (λ ms. get_or ms i e) members in
    record {
      value = λ b evaluated at.
          mapped_more (head_row (net_told b) b.calendar.locked league) league.members i e (e, score) c.loop-member.rows.items c.push.new.self.items
          within is (ap (λ those. (e, those)) (c.head_held-score.ensures.value b evaluated ∙ row_told b c.args.id e league at)) (c.loop-member.invariant.value b evaluated at) c.in_ok-push.ensures.items;
      entries = parts_more (λ row. row.0) league.members i e (e, score) c.loop-member.rows.items c.push.new.self.items
          within is refl c.loop-member.invariant.entries c.in_ok-push.ensures.items;
      cost = let before = c.loop-member.invariant.cost in let one = c.head_held-score.ensures.cost in omega (arith, before, one);
    }
