use Rattle.std.proofs.Common.{◌≡◌, ◌≤◌, ◌<◌, ◌+◌, ◌∙◌, length, arith, refl, subst}
use Rattle.std.specs.Prelude.{IfSome}
use Rattle.std.proofs.lemmas.List.FromFn.{length-enumerate_from}
use Rattle.json_members.specs.Tokens.{tokens_of}
use Rattle.json_members.proofs.ListLemmas.{numbered_more, rest_of}
use Rattle.season_book.specs.Windows.{entry_data, entry_row, numbered}
use Rattle.season_views.proofs.Numbered.{as_many, entry_numbered}
use Rattle.season_views.proofs.Written.{ended, retold}
use Rattle.season_windows.proofs.windows.write_entries.Goals as goal

pub loop-place-preserved : goal.loop-place-preserved
loop-place-preserved g c =
    let seen = c.args.seen.now in
    let place = c.loop-place.place in
    let id = c.unwrap-id.result in
    let next : id ≡ place + 1 = subst (λ o. IfSome o (λ n. n ≡ place + 1)) c.unwrap-id.ensures c.new.ensures.value in
    let number : 1 + place ≡ id = omega (arith, next) in
    let below : place < length seen.managers.managers = omega (arith, c.loop-place-test.true, c.entries-place-end.ensures) in
    record {
      tokens = λ entries are.
          let there = entry_numbered seen.facts.players seen.managers.managers entries place id are below number in
          let named = c.entry-there.ensures entries are there.0 there.2 in
          let wrote = retold (λ i. tokens_of (entry_data id (named.0 i) (named.1 i))) c.in_ok-write_listed_entry.ensures in
          numbered_more entry_row entries place id there.0 there.1 number wrote (c.loop-place.invariant.tokens entries are);
      before = c.in_ok-write_listed_entry.ensures.before ∙ c.loop-place.invariant.before;
    }

pub returns : goal.returns
returns g c = λ entries are.
    let seen = c.args.seen.now in
    let place = c.loop-place.place in
    let long = as_many seen.facts.players seen.managers.managers entries are in
    let past : length (numbered entries) ≤ place = omega (arith, length-enumerate_from 1 entries, long, c.loop-place-test.false, c.entries-place-end.ensures) in
    ended (rest_of entry_row) (numbered entries) place refl past c.end_array.ensures (c.loop-place.invariant.tokens entries are) c.loop-place.invariant.before
