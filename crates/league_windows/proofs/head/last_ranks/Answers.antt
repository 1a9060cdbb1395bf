use Rattle.std.proofs.Common.{◌≡◌, length, map, arith, sym, ap, ◌∙◌}
use Rattle.std.specs.Prelude.{nat_lt}
use Rattle.std.proofs.lemmas.List.{take_all}
use Rattle.std.proofs.lemmas.Result.{IfOk-weaker}
use Rattle.rule_book.specs.Ranks.{rank_among}
use Rattle.season_views.specs.Seen.{OfEachSeen}
use Rattle.season_rules.proofs.Lists.{mapped_more}
use Rattle.season_book.specs.LeagueTables.{head_last_rank}
use Rattle.league_windows.specs.Standings.{comes_before_in_head, head_standing_before}
use Rattle.league_windows.proofs.Added.{long_more, zeros, zeros_of}
use Rattle.league_windows.proofs.StandingsBefore.{head_ranks_are, head_ranks_are_zero, is_behind, is_not_behind}
use Rattle.league_windows.proofs.head.last_ranks.Goals as goal

pub loop-row-preserved : goal.loop-row-preserved
loop-row-preserved g c =
    let facts = c.args.seen.now.facts in
    let rows = c.args.rows.now in
    let i = c.loop-row.row-index in
    let row = c.row-item.result in
    record {
      value = λ entries are.
          mapped_more (head_standing_before facts entries c.args.league.now) rows i row c.standing_before.result c.loop-row.standings.items c.push.new.self.items
          c.loop-row-test.true c.row-item.is (c.standing_before.ensures.value entries are) (c.loop-row.invariant.value entries are) c.in_ok-push.ensures.items;
      long = long_more rows i row c.standing_before.result c.loop-row.standings.items c.push.new.self.items c.loop-row-test.true c.row-item.is c.in_ok-push.ensures.items c.loop-row.invariant.long;
      cost = let before = c.loop-row.invariant.cost in let two = c.standing_before.ensures.cost in omega (arith, before, two);
    }

pub returns-in_default-clause-value : goal.returns-in_default-clause-value
returns-in_default-clause-value g c = λ entries are.
    let facts = c.args.seen.now.facts in
    let league = c.args.league.now in
    let last = facts.calendar.locked in
    let not = ap (λ s. nat_lt s last) (sym c.start.ensures) ∙ is_not_behind (nat_lt c.start.result last) last c.last_behind.result c.last_behind.ensures c.in_default.is in
    head_ranks_are_zero facts entries league c.in_ok-vec.field-0.items not
    (c.in_ok-vec.ensures.items_if_clones_equal (λ y is. cc is) ∙ ap zeros_of (ap length c.members-members.ensures.value) ∙ zeros league.members)

pub returns-clause-value : goal.returns-clause-value
returns-clause-value g c =
    let seen = c.args.seen.now in
    let facts = seen.facts in
    let league = c.args.league.now in
    let rows = c.args.rows.now in
    let last = facts.calendar.locked in
    let whole = take_all c.loop-row.row-index rows (omega (arith, c.loop-row-test.false)) in
    let behind = ap (λ s. nat_lt s last) (sym c.start.ensures) ∙ (is_behind (nat_lt c.start.result last) last c.in-Some.last c.last_behind.result c.last_behind.ensures c.in-Some.is).0 in
    IfOk-weaker c.ranks.result (λ ranks. ranks.items ≡ map (rank_among comes_before_in_head c.deref.result.now) c.deref.result.now) (λ ranks. OfEachSeen seen (λ entries. ranks.items ≡ map (head_last_rank facts entries league) league.members))
    (λ ranks is. λ entries are.
    head_ranks_are facts entries league rows c.deref.result.now ranks.items behind (c.requires.rows entries are)
    (c.deref.ensures.value ∙ c.loop-row.invariant.value entries are ∙ ap (map (head_standing_before facts entries league)) whole) is) c.ranks.ensures
