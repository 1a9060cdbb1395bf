use Rattle.std.proofs.Common.{◌≡◌, ◌≤◌, ◌+◌, ◌∙◌, Contains, length, map, ap, arith, refl, rules, sym, subst}
use Rattle.std.proofs.lemmas.List.FromFn.{length-enumerate_from}
use Rattle.json_members.specs.Tokens.{tokens_of}
use Rattle.json_members.proofs.ListLemmas.{numbered_more, rest_of}
use Rattle.rule_book.specs.declared.tables.Ranked.{Ranked}
use Rattle.season_book.specs.LeagueViews.{name_of}
use Rattle.season_book.specs.Windows.{numbered}
use Rattle.season_views.proofs.Written.{ended, retold}
use Rattle.season_book.specs.ClassicStandings.{classic_row_told, classic_standing, last_points}
use Rattle.season_book.specs.LeagueTables.{classic_last_rank}
use Rattle.league_windows.proofs.RowMembers.{member_read, stands_at}
use Rattle.league_windows.proofs.classic.write_rows.Goals as goal

pub rank_of-last-requires-clause-member : goal.rank_of-last-requires-clause-member
rank_of-last-requires-clause-member g c =
    subst (λ ms. Contains ms c.index-table-place.result.entry) (sym c.members.ensures.value)
    (member_read (λ (row : Ranked). row.entry) c.args.league.now.members c.args.table.now c.loop-place.place c.index-table-place.result c.requires.members c.loop-place-test.true c.index-table-place.is)

pub rank_of-last-requires-clause-each : goal.rank_of-last-requires-clause-each
rank_of-last-requires-clause-each g c = c.requires.each ∙ ap length (sym c.members.ensures.value)

pub loop-place-preserved : goal.loop-place-preserved
loop-place-preserved g c =
    let facts = c.args.seen.now.facts in
    let league = c.args.league.now in
    let table = c.args.table.now in
    let place = c.loop-place.place in
    let row = c.index-table-place.result in
    let number : 1 + place ≡ place + 1 = omega arith in
    let at = stands_at table place row c.loop-place-test.true c.index-table-place.is in
    record {
      tokens = λ entries are.
          let ranks = c.requires.ranks entries are ∙ ap (map (classic_last_rank facts entries league)) (sym c.members.ensures.value) in
          let last = c.rank_of-last.ensures (classic_last_rank facts entries league) ranks in
          let wrote = retold (λ i. tokens_of (classic_row_told (name_of entries row.entry) (last_points facts entries row.entry) (last i) (place + 1, row))) (c.in_ok-write_row.ensures.value entries are) in
          numbered_more (classic_standing facts entries league) table place (place + 1) row at number wrote (c.loop-place.invariant.tokens entries are);
      before = λ entries are. (c.in_ok-write_row.ensures.value entries are).before ∙ c.loop-place.invariant.before entries are;
      cost = let before = c.loop-place.invariant.cost in let one = c.write_row.ensures.cost in omega (arith, before, one);
    }

pub returns-in_err-write_row-clause-value : goal.returns-in_err-write_row-clause-value
returns-in_err-write_row-clause-value g c = λ entries are.
    record { tokens = search rules; before = (c.in_err-write_row.ensures.value entries are).before ∙ c.loop-place.invariant.before entries are }

pub returns-clause-value : goal.returns-clause-value
returns-clause-value g c = λ entries are.
    let facts = c.args.seen.now.facts in
    let table = c.args.table.now in
    let place = c.loop-place.place in
    let past : length (numbered table) ≤ place = omega (arith, length-enumerate_from 1 table, c.loop-place-test.false) in
    ended (rest_of (classic_standing facts entries c.args.league.now)) (numbered table) place refl past c.end_array.ensures (c.loop-place.invariant.tokens entries are) (c.loop-place.invariant.before entries are)
