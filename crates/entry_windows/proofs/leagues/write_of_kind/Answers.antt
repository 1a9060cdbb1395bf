use Rattle.std.proofs.Common.{ℕ, Bool, ◌≤◌, ◌<◌, ◌+◌, ◌∙◌, length, ap, arith, filter, get_or, refl, subst, sym}
use Rattle.std.proofs.lemmas.Option.{same_Some}
use Rattle.json_members.specs.Tokens.{tokens_of}
use Rattle.json_members.proofs.ListLemmas.{got, kept_if, rest_of}
use Rattle.rule_book.specs.LeagueCalls.{is_member, leagues_of}
use Rattle.rule_book.specs.Leagues.{LeagueFacts}
use Rattle.season_book.specs.Windows.{listed, my_leagues, numbered}
use Rattle.season_views.proofs.Written.{ended, retold}
use Rattle.entry_windows.specs.EntryLeagues.{is_of_kind, league_reads, league_told}
use Rattle.entry_windows.proofs.Appending.{appended}
use Rattle.season_views.proofs.Lists.{sum_next}
use Rattle.entry_windows.proofs.OwnLeagues.{filter_both, own_at, own_count, summed_first}
use Rattle.entry_windows.proofs.leagues.write_of_kind.Goals as goal

pub write_if_of_kind-requires-clause-member : goal.write_if_of_kind-requires-clause-member
write_if_of_kind-requires-clause-member g c league at =
    let e = c.args.entry in
    let index = c.loop-id.id-index in
    let ids = c.leagues_of-id-items.ensures ∙ ap (λ ls. leagues_of ls e) c.leagues.ensures in
    let there = own_at c.args.seen.now.leagues e index c.id-item.result (subst (λ l. index < length l) ids c.loop-id-test.true) (c.id-item.is ∙ ap (λ l. get_or l index c.id-item.result) ids) in
    ap (λ l. is_member l e) (same_Some league there.0 (sym at ∙ there.2)) ∙ there.3

pub loop-id-preserved : goal.loop-id-preserved
loop-id-preserved g c =
    let seen = c.args.seen.now in
    let e = c.args.entry in
    let kind = c.args.kind in
    let index = c.loop-id.id-index in
    let id = c.id-item.result in
    let ids = c.leagues_of-id-items.ensures ∙ ap (λ ls. leagues_of ls e) c.leagues.ensures in
    let there = own_at seen.leagues e index id (subst (λ l. index < length l) ids c.loop-id-test.true) (c.id-item.is ∙ ap (λ l. get_or l index id) ids) in
    let own = my_leagues seen.leagues e in
    let at = got own index (id, there.0) there.1 in
    record {
      tokens = λ entries are.
          kept_if (league_told kind seen.facts entries e) (λ row. is_of_kind kind row.1) own index (id, there.0) at.0 (sym at.1)
          (appended {a = c.loop-id.out} {b = c.write_if_of_kind.new.out} (c.in_ok-write_if_of_kind.ensures.value entries are there.0 there.2)) (c.loop-id.invariant.tokens entries are);
      before = λ entries are. (c.in_ok-write_if_of_kind.ensures.value entries are there.0 there.2).1 ∙ c.loop-id.invariant.before entries are;
      cost = let one = c.write_if_of_kind.ensures.cost there.0 there.2 in let more = sum_next (λ row. league_reads kind e row.1) own index (id, there.0) there.1 in omega (arith, c.loop-id.invariant.cost, one, more);
    }

pub returns-in_err-write_if_of_kind-clause-cost : goal.returns-in_err-write_if_of_kind-clause-cost
returns-in_err-write_if_of_kind-clause-cost g c =
    let leagues = c.args.seen.now.leagues in
    let e = c.args.entry in
    let kind = c.args.kind in
    let index = c.loop-id.id-index in
    let id = c.id-item.result in
    let ids = c.leagues_of-id-items.ensures ∙ ap (λ ls. leagues_of ls e) c.leagues.ensures in
    let there = own_at leagues e index id (subst (λ l. index < length l) ids c.loop-id-test.true) (c.id-item.is ∙ ap (λ l. get_or l index id) ids) in
    let one = c.write_if_of_kind.ensures.cost there.0 there.2 in
    let more = sum_next (λ row. league_reads kind e row.1) (my_leagues leagues e) index (id, there.0) there.1 in
    omega (arith, c.loop-id.invariant.cost, one, more, summed_first (league_reads kind e) leagues e (index + 1))

pub returns-in_err-end_array-clause-cost : goal.returns-in_err-end_array-clause-cost
returns-in_err-end_array-clause-cost g c =
    omega (arith, c.loop-id.invariant.cost, summed_first (league_reads c.args.kind c.args.entry) c.args.seen.now.leagues c.args.entry c.loop-id.id-index)

pub returns-clause-cost : goal.returns-clause-cost
returns-clause-cost g c =
    omega (arith, c.loop-id.invariant.cost, summed_first (league_reads c.args.kind c.args.entry) c.args.seen.now.leagues c.args.entry c.loop-id.id-index)

pub returns-clause-value : goal.returns-clause-value
returns-clause-value g c = λ entries are.
    let seen = c.args.seen.now in
    let e = c.args.entry in
    let kind = c.args.kind in
    let own = my_leagues seen.leagues e in
    let told = league_told kind seen.facts entries e in
    let is : ℕ × LeagueFacts → Bool = λ row. is_of_kind kind row.1 in
    let ids = c.leagues_of-id-items.ensures ∙ ap (λ ls. leagues_of ls e) c.leagues.ensures in
    let past : length own ≤ c.loop-id.id-index = omega (arith, own_count seen.leagues e, ap length ids, c.loop-id-test.false) in
    let all = ended {a = c.args.out.now} {whole = tokens_of (listed told (filter is own))} (λ rows. rest_of told (filter is rows)) own c.loop-id.id-index refl past c.in_ok-end_array.ensures
    (c.loop-id.invariant.tokens entries are) (c.loop-id.invariant.before entries are) in
    let whole = retold (ap (λ rows. tokens_of (listed told rows)) (filter_both is (λ row. is_member row.1 e) (numbered seen.leagues))) all in
    (whole.tokens, whole.before)
