use Rattle.std.proofs.Common.{◌≡◌, ◌<◌, length, get_or, arith, subst, sym, ap, ◌∙◌}
use Rattle.season_views.specs.Cells.{AreKeptFrom}
use Rattle.season_views.specs.Leagues.{classic_row_since}
use Rattle.season_rules.proofs.Lists.{mapped_more}
use Rattle.season_views.proofs.Lists.{parts_more}
use Rattle.season_views.proofs.Totals.{kept_from}
use Rattle.season_views.proofs.classic.classic_rows.Goals as goal

pub classic_row-row-requires-clause-kept : goal.classic_row-row-requires-clause-kept
classic_row-row-requires-clause-kept g c =
    let facts = c.args.seen.now.facts in
    let managers = c.args.seen.now.managers in
    let league = c.args.league.now in
    let members = c.members-member-items.ensures.value in
    let i = c.loop-member.member-index in
    let e = c.member-item.result in
    let within : i < length league.members = omega (arith, c.loop-member-test.true, ap length members) in
    subst (λ s. AreKeptFrom facts managers e s c.args.cells.now) (sym c.start.ensures)
    (kept_from facts managers league c.args.cells.now i e c.requires.kind within (c.member-item.is ∙ ap (λ ms. get_or ms i e) members) c.requires.kept)

pub loop-member-preserved : goal.loop-member-preserved
loop-member-preserved g c =
    let facts = c.args.seen.now.facts in
    let league = c.args.league.now in
    let members = c.members-member-items.ensures.value in
    let i = c.loop-member.member-index in
    let e = c.member-item.result in
    let within : i < length league.members = omega (arith, c.loop-member-test.true, ap length members) in
    let is : e ≡ get_or league.members i e = c.member-item.is ∙ ap (λ ms. get_or ms i e) members in
    record {
      value = λ entries are.
          mapped_more (classic_row_since facts entries league.start) league.members i e c.classic_row-row.result c.loop-member.rows.items c.push.new.self.items
          within is (c.classic_row-row.ensures.value entries are ∙ ap (λ s. classic_row_since facts entries s e) c.start.ensures) (c.loop-member.invariant.value entries are) c.in_ok-push.ensures.items;
      entries = parts_more (λ row. row.0) league.members i e c.classic_row-row.result c.loop-member.rows.items c.push.new.self.items
          within is c.classic_row-row.ensures.entry c.loop-member.invariant.entries c.in_ok-push.ensures.items;
      cost = let before = c.loop-member.invariant.cost in let two = c.classic_row-row.ensures.cost in omega (arith, before, two);
    }
