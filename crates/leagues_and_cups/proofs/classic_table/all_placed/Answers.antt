use Rattle.std.proofs.Common.{ℕ, ℤ, ◌≡◌, ◌∙◌, ap, ◌<◌, ◌≤◌, ◌^◌, length, take, get_or, arith}
use Rattle.std.proofs.lemmas.List.{length-map, take_all}
use Rattle.std.proofs.lemmas.List.Elements.{All-more}
use Rattle.rule_book.proofs.RankLemmas.{mapped_more}
use Rattle.rule_book.proofs.TableLemmas.{few_rows}
use Rattle.leagues_and_cups.specs.ClassicStanding.{placed_of_row}
use Rattle.leagues_and_cups.proofs.classic_table.all_placed.Goals as goal

pub loop-row-preserved : goal.loop-row-preserved
loop-row-preserved c =
    let rows = c.args.rows.now in
    let i = c.loop-row.row-index in
    let row = c.row-item.result in
    let same : row.0 ≡ (get_or rows i row).0 = ap (λ (r : ℕ × ℤ × ℕ). r.0) c.row-item.is in
    record {
      each = mapped_more placed_of_row rows i row c.placed_of.result c.loop-row.placed.items _ c.loop-row-test.true c.loop-row.invariant.each (c.placed_of.ensures ∙ ap placed_of_row c.row-item.is) c.in_ok-push.ensures.items;
      range = All-more (λ (r : ℕ × ℤ × ℕ). (1 ≤ r.0) × (r.0 < 2 ^ 32)) rows i row c.loop-row-test.true c.loop-row.invariant.range (omega (arith, same), omega (arith, same));
    }

pub returns-clause-few : goal.returns-clause-few
returns-clause-few c =
    let rows = c.args.rows.now in
    let i = c.loop-row.row-index in
    let few : length rows < 2 ^ 32 = few_rows (λ (r : ℕ × ℤ × ℕ). r.0) (2 ^ 32) rows i (omega arith) c.requires c.loop-row.invariant.range (omega arith) in
    let long : length c.loop-row.placed.items ≡ length rows =
    ap length c.loop-row.invariant.each ∙ length-map (take i rows) placed_of_row ∙ ap length (take_all i rows (omega arith)) in
    omega (arith, few, long)
