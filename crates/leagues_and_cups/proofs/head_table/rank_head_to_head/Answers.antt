use Rattle.std.proofs.Common.{◌≡◌, ◌∙◌, ap, subst, List, map, rules, IsPermutation}
use Rattle.std.specs.List.{zip}
use Rattle.std.specs.Ordering.{is_lt, ordering_then, nat_cmp, int_cmp}
use Rattle.std.proofs.lemmas.List.Sorted.{answers_always}
use Rattle.rule_book.specs.Ranks.{rank_among}
use Rattle.rule_book.specs.HeadToHead.{is_better, head_ranked}
use Rattle.rule_book.specs.declared.tables.HeadRanked.{HeadRanked}
use Rattle.rule_book.proofs.TableLemmas.{rows_with_ranks}
use Rattle.leagues_and_cups.specs.HeadStanding.{standing_of_row, with_rank}
use Rattle.leagues_and_cups.specs.declared.head_table.Standing.{Standing}
use Rattle.leagues_and_cups.proofs.HeadStandingLemmas.{less_is_better}
use Rattle.leagues_and_cups.proofs.TableEntries.{head_entries}
use Rattle.leagues_and_cups.proofs.head_table.rank_head_to_head.Goals as goal

pub returns-clause-ranked : goal.returns-clause-ranked
returns-clause-ranked c =
    let rows = c.args.rows.now in
    let less = λ (a : Standing) (b : Standing). is_lt (ordering_then (nat_cmp b.points.0 a.points.0) (int_cmp b.scored.0 a.scored.0)) in
    let ranks = c.in_ok-ranks.ensures ∙ ap (λ (l : List Standing). map (rank_among less l) l) c.deref.ensures.value in
    let same : c.in_ok-table.table.items ≡ map (head_ranked rows) rows =
    c.in_ok-table.ensures ∙ ap (λ l. map with_rank (zip rows l)) c.deref-2.ensures.value ∙ rows_with_ranks standing_of_row less is_better with_rank less_is_better rows c.in_ok-standings.standings.items c.in_ok-ranks.ranks.items c.in_ok-standings.ensures.each ranks in
    record {
      each_ranked = subst (λ (l : List HeadRanked). IsPermutation l c.sort_by_key.new.self.items) same c.in_ok-sort_by_key.ensures.permutation;
      in_order = c.in_ok-sort_by_key.ensures.sorted (λ (row : HeadRanked). (row.rank, row.entry)) (answers_always _ _ _ (λ f a r q k. search rules));
    }

pub returns-clause-value : goal.returns-clause-value
returns-clause-value c = (c.tables_are_the_one.ensures.head c.args.rows.now c.sort_by_key.new.self.items c.requires).0 (returns-clause-ranked c)

pub returns-clause-entries : goal.returns-clause-entries
returns-clause-entries c n few = head_entries c.args.rows.now c.sort_by_key.new.self.items n (returns-clause-ranked c) few
