use Rattle.std.proofs.Common.{◌≡◌, ◌≤◌, ◌<◌, ◌+◌, ◌∙◌, length, take, arith, ap, subst, sym}
use Rattle.std.specs.Prelude.{IfSome}
use Rattle.std.proofs.lemmas.List.{take_all}
use Rattle.rule_book.specs.HistoryRules.{is_started}
use Rattle.season_book.specs.Book.{EntryFacts}
use Rattle.season_views.proofs.Numbered.{as_many, entry_numbered}
use Rattle.season_book.specs.Bootstrap.{registered}
use Rattle.bootstrap_window.proofs.Counting.{count_next}
use Rattle.bootstrap_window.proofs.bootstrap.registered.Goals as goal

pub loop-place-preserved : goal.loop-place-preserved
loop-place-preserved g c =
    let seen = c.args.seen.now in
    let place = c.loop-place.place in
    let id = c.unwrap.result in
    let next : id ≡ place + 1 = subst (λ o. IfSome o (λ n. n ≡ place + 1)) c.unwrap.ensures c.new.ensures.value in
    let number : 1 + place ≡ id = omega (arith, next) in
    let below : place < length seen.managers.managers = omega (arith, c.loop-place-test.true, c.entries-place-end.ensures) in
    record {
      many = λ entries are.
          let there = entry_numbered seen.facts.players seen.managers.managers entries place id are below number in
          ap (λ n. n + c.one_registered-many.result) (c.loop-place.invariant.many entries are)
          ∙ ap (λ n. registered (take place entries) + n) (c.one_registered-many.ensures.value entries are there.0 there.2)
          ∙ sym (count_next (λ (entry : EntryFacts). is_started entry.history) entries place there.0 there.1);
      few = omega (arith, c.one_registered-many.ensures.bound, c.loop-place.invariant.few);
    }

pub returns : goal.returns
returns g c = λ entries are.
    let seen = c.args.seen.now in
    let place = c.loop-place.place in
    let long = as_many seen.facts.players seen.managers.managers entries are in
    let past : length entries ≤ place = omega (arith, long, c.loop-place-test.false, c.entries-place-end.ensures) in
    c.loop-place.invariant.many entries are ∙ ap registered (take_all place entries past)
