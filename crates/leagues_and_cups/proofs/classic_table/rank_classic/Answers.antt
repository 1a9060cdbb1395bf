use Rattle.std.proofs.Common.{◌≡◌, ◌∙◌, sym, ap, subst, List, map, IsPermutation}
use Rattle.std.proofs.lemmas.Result.{IfOk-weaker}
use Rattle.rule_book.specs.ClassicTable.{IsClassicTable}
use Rattle.leagues_and_cups.specs.ClassicStanding.{placed_of_row, ranked_placed}
use Rattle.leagues_and_cups.specs.declared.classic_table.Placed.{Placed}
use Rattle.leagues_and_cups.proofs.ClassicStandingLemmas.{is_table}
use Rattle.leagues_and_cups.proofs.TableEntries.{classic_entries}
use Rattle.leagues_and_cups.proofs.classic_table.rank_classic.Goals as goal

pub returns-clause-ranked : goal.returns-clause-ranked
returns-clause-ranked c =
    let rows = c.args.rows.now in
    let sorted = c.sort_unstable.new.self.items in
    let moved : IsPermutation (map placed_of_row rows) sorted = subst (λ (l : List Placed). IsPermutation l sorted) c.in_ok-placed.ensures.each c.sort_unstable.ensures.permutation in
    let whole : IsClassicTable rows (map (ranked_placed sorted) sorted) = is_table rows sorted moved c.sort_unstable.ensures.sorted in
    let same : map (ranked_placed c.deref.result.now) c.deref.result.now ≡ map (ranked_placed sorted) sorted = ap (λ (l : List Placed). map (ranked_placed l) l) c.deref.ensures.value in
    IfOk-weaker c.ranked_rows.result _ _ (λ table is. subst (IsClassicTable rows) (sym (is ∙ same)) whole) c.ranked_rows.ensures

pub returns-clause-value : goal.returns-clause-value
returns-clause-value c =
    IfOk-weaker c.ranked_rows.result _ _ (λ table is. (c.tables_are_the_one.ensures.classic c.args.rows.now table.items c.requires).0 is) (returns-clause-ranked c)

pub returns-clause-entries : goal.returns-clause-entries
returns-clause-entries c n few =
    IfOk-weaker c.ranked_rows.result _ _ (λ table is. classic_entries c.args.rows.now table.items n is few) (returns-clause-ranked c)
