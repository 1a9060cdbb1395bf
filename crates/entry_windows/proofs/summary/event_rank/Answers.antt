use Rattle.std.proofs.Common.{◌≡◌, ◌<◌, ◌≤◌, ◌+◌, ◌∙◌, length, arith, ap, of_z, rules, subst, sym, to_z, w32}
use Rattle.std.specs.List.{count_by}
use Rattle.std.specs.Prelude.{IfSome}
use Rattle.std.proofs.lemmas.List.{take_all}
use Rattle.season_views.proofs.Numbered.{as_many, entry_numbered}
use Rattle.entry_windows.proofs.Places.{counted_more}
use Rattle.entry_windows.proofs.EventRanks.{event_rank_is, has_more}
use Rattle.entry_windows.proofs.summary.event_rank.Goals as goal

pub loop-place-preserved : goal.loop-place-preserved
loop-place-preserved g c =
    let seen = c.args.seen.now in
    let place = c.loop-place.place in
    let id = c.unwrap-other.result in
    let inv = c.loop-place.invariant in
    let next : id ≡ place + 1 = subst (λ o. IfSome o (λ n. n ≡ place + 1)) c.unwrap-other.ensures c.new.ensures.value in
    let number : 1 + place ≡ id = omega (arith, next) in
    let below : place < length seen.managers.managers = omega (arith, c.loop-place-test.true, c.entries-place-end.ensures) in
    record {
      value = λ entries are.
          let there = entry_numbered seen.facts.players seen.managers.managers entries place id are below number in
          let one = c.more_points-rank.ensures.value entries are there.0 there.2 in
          let before = inv.value entries are in
          let more = counted_more (has_more seen.facts c.args.last (to_z w32 (of_z w32 c.args.points))) entries place there.0 there.1 in
          omega (arith, one, before, more);
      few = omega (arith, inv.few, c.more_points-rank.ensures.few);
      cost = omega (arith, inv.cost, c.more_points-rank.ensures.cost);
    }

pub returns-clause-value : goal.returns-clause-value
returns-clause-value g c = λ entries are row is.
    let seen = c.args.seen.now in
    let facts = seen.facts in
    let last = c.args.last in
    let many = as_many seen.facts.players seen.managers.managers entries are in
    let all : length entries ≤ c.loop-place.place = omega (arith, many, c.loop-place-test.false, c.entries-place-end.ensures) in
    let fits : to_z w32 (of_z w32 c.args.points) ≡ c.args.points = search rules in
    c.loop-place.invariant.value entries are
    ∙ ap (λ es. count_by (has_more facts last (to_z w32 (of_z w32 c.args.points))) es + 1) (take_all c.loop-place.place entries all)
    ∙ ap (λ z. count_by (has_more facts last z) entries + 1) (fits ∙ is)
    ∙ sym (event_rank_is facts entries last row)
