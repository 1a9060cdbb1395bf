use Rattle.std.proofs.Common.{◌≡◌, ◌<◌, ◌+◌, ◌-◌, ℕ, ℤ, nat_lt, length, refl, ap, ◌∙◌, arith, rules}
use Rattle.rule_book.specs.FigureRange.{IsWithin}
use Rattle.season_nodes.specs.BookFacts.{facts_of}
use Rattle.season_nodes.specs.Held.{held_values}
use Rattle.season_nodes.specs.Rounds.{lower, met, order_in, start_in}
use Rattle.season_nodes.specs.Season.{scores_held, seen_by, seen_from}
use Rattle.season_nodes.specs.declared.nodes.Node.TheVariants as node
use Rattle.season_rules.proofs.Lists.{all_more, long_more, range_more}
use Rattle.season_rules.proofs.heads.matches.Goals as goal

pub loop-round-preserved : goal.loop-round-preserved
loop-round-preserved g c =
    let seen = seen_by (facts_of c.args.books.now) (held_values c.args.cells.now) c.args.league c.args.place in
    let start = start_in c.args.books.now.leagues.now c.args.league in
    let round = c.loop-round.round in
    let members = length (order_in c.args.books.now.leagues.now c.args.league) in
    let at : ℕ → ℤ × ℤ = λ k. seen_from (nat_lt c.args.place (met members k c.args.place)) (scores_held (held_values c.args.cells.now (node.Match c.args.league (start + round) (lower members k c.args.place)))) in
    let same : round ≡ start + round - start = omega arith in
    let gameweek : c.unwrap-gameweek.result ≡ start + round = search rules in
    let here : c.seen.result ≡ at round = rw (c.met-met.ensures, c.order-members.ensures.value, gameweek) at c.seen.ensures.value in
    let old = c.loop-round.matches.items in
    let new = c.push.new.self.items in
    record {
      value = range_more seen start round (start + round) c.seen.result old new refl
          (here ∙ ap at same) c.loop-round.invariant.value c.in_ok-push.ensures.items;
      long = long_more round c.seen.result old new c.loop-round.invariant.long c.in_ok-push.ensures.items;
      near = all_more (λ m. IsWithin 18000000 m.0) c.seen.result old new c.loop-round.invariant.near c.seen.ensures.near c.in_ok-push.ensures.items;
      cost = omega (arith, c.loop-round.invariant.cost, c.seen.ensures.cost);
    }

pub returns-in_err-push-clause-cost : goal.returns-in_err-push-clause-cost
returns-in_err-push-clause-cost g c =
    let some : 0 < length (order_in c.args.books.now.leagues.now c.args.league) = omega (arith, c.requires) in
    omega (arith, c.loop-round.invariant.cost, c.seen.ensures.cost, c.loop-round-test.true, c.rounds_of-rounds.ensures.few some)

pub returns-clause-few : goal.returns-clause-few
returns-clause-few g c =
    let some : 0 < length (order_in c.args.books.now.leagues.now c.args.league) = omega (arith, c.requires) in
    omega (arith, c.loop-round.invariant.long, c.loop-round.auto.round-end, c.rounds_of-rounds.ensures.few some)

pub returns-clause-cost : goal.returns-clause-cost
returns-clause-cost g c =
    let some : 0 < length (order_in c.args.books.now.leagues.now c.args.league) = omega (arith, c.requires) in
    omega (arith, c.loop-round.invariant.cost, c.loop-round.auto.round-end, c.rounds_of-rounds.ensures.few some)
