use Rattle.std.proofs.Common.{◌≡◌, ◌≤◌, ◌<◌, ◌+◌, ◌∙◌, length, ap, arith, refl, rules, subst}
use Rattle.std.specs.Prelude.{IfSome}
use Rattle.std.proofs.lemmas.List.FromFn.{length-enumerate_from}
use Rattle.json_members.proofs.ListLemmas.{numbered_more, rest_of}
use Rattle.season_book.specs.Windows.{league_row, numbered}
use Rattle.season_views.proofs.Numbered.{numbered_at}
use Rattle.season_views.proofs.Written.{ended}
use Rattle.season_windows.proofs.windows.write_leagues.Goals as goal

pub loop-place-preserved : goal.loop-place-preserved
loop-place-preserved g c =
    let things = c.args.seen.now.leagues in
    let place = c.loop-place.place in
    let id = c.unwrap.result in
    let next : id ≡ place + 1 = subst (λ o. IfSome o (λ n. n ≡ place + 1)) c.unwrap.ensures c.new.ensures.value in
    let number : 1 + place ≡ id = omega (arith, next) in
    let below : place < length things = omega (arith, c.loop-place-test.true, c.count-place-end.ensures.value, ap length c.leagues.ensures) in
    let there = numbered_at things place id below number in
    let wrote = c.in_ok-write_league_at.ensures there.0 there.2 in
    record {
      tokens = numbered_more league_row things place id there.0 there.1 number wrote c.loop-place.invariant.tokens;
      before = wrote.before ∙ c.loop-place.invariant.before;
    }

pub returns-in_err-write_league_at : goal.returns-in_err-write_league_at
returns-in_err-write_league_at g c =
    let things = c.args.seen.now.leagues in
    let place = c.loop-place.place in
    let id = c.unwrap.result in
    let next : id ≡ place + 1 = subst (λ o. IfSome o (λ n. n ≡ place + 1)) c.unwrap.ensures c.new.ensures.value in
    let number : 1 + place ≡ id = omega (arith, next) in
    let below : place < length things = omega (arith, c.loop-place-test.true, c.count-place-end.ensures.value, ap length c.leagues.ensures) in
    let there = numbered_at things place id below number in
    let wrote = c.in_err-write_league_at.ensures there.0 there.2 in
    record { tokens = search rules; before = wrote.before ∙ c.loop-place.invariant.before }

pub returns : goal.returns
returns g c =
    let things = c.args.seen.now.leagues in
    let place = c.loop-place.place in
    let past : length (numbered things) ≤ place = omega (arith, length-enumerate_from 1 things, c.loop-place-test.false, c.count-place-end.ensures.value, ap length c.leagues.ensures) in
    ended (rest_of league_row) (numbered things) place refl past c.end_array.ensures c.loop-place.invariant.tokens c.loop-place.invariant.before
