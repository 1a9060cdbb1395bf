use Rattle.std.proofs.Common.{◌≡◌, ◌<◌, ◌+◌, ◌∷◌, [], ◌++◌, ℕ, suc, length, map, take, drop, true, arith, sym, ap, ◌∙◌, rules}
use Rattle.std.specs.Result.{is_ok}
use Rattle.std.proofs.lemmas.List.{map_more}
use Rattle.std.proofs.lemmas.List.Elements.{All-push}
use Rattle.csv.specs.Records.{fields_of}
use Rattle.rule_book.specs.Figures.{IsLine}
use Rattle.rule_book.specs.declared.line.Appearance.{Appearance}
use Rattle.score_sheet.specs.Rows.{AddAll}
use Rattle.score_sheet.proofs.RowLists.{AddAll-more, cut_around, length-map-take}
use Rattle.score_sheet.proofs.rows.rows_of.Goals as goal

pub loop-read-init : goal.loop-read-init
unfolding AddAll
loop-read-init c = (c.new-rows.ensures.len, c.new-rows.ensures.items, rw c.new-rows.ensures.items (λ k d h. absurd (omega arith)))

pub returns-in_default-clause-fault : goal.returns-in_default-clause-fault
returns-in_default-clause-fault c =
    let here : c.loop-read.read-index < length c.args.records.now = c.loop-read-test.true in
    record {
      front = map fields_of (take c.loop-read.read-index c.args.records.now);
      fields = fields_of c.read-item.result;
      rest = map fields_of (drop (suc c.loop-read.read-index) c.args.records.now);
      rows = c.loop-read.rows.items;
      parts = cut_around fields_of c.args.records.now c.loop-read.read-index c.read-item.result here c.read-item.is;
      place = ap (λ (n : ℕ). n + 1) (c.len.ensures ∙ c.loop-read.invariant.0 ∙ sym (length-map-take fields_of c.args.records.now c.loop-read.read-index (omega arith)));
      before = c.loop-read.invariant.1;
      wrong = rw c.as_slice.ensures.value at c.in_default.ensures.row;
    }

pub loop-read-preserved : goal.loop-read-preserved
loop-read-preserved c =
    let here : c.loop-read.read-index < length c.args.records.now = c.loop-read-test.true in
    let good : is_ok c.push.result ≡ true = search rules in
    let len = rw good at c.push.ensures.len in
    let items = rw good at c.push.ensures.items in
    let adds = rw c.as_slice.ensures.value at c.in-Some.ensures.row in
    let more = map_more fields_of c.args.records.now c.loop-read.read-index c.read-item.result here
    ∙ ap (λ x. map fields_of (take c.loop-read.read-index c.args.records.now) ++ fields_of x ∷ []) (sym c.read-item.is) in (
      len ∙ ap (λ (n : ℕ). n + 1) c.loop-read.invariant.0,
      rw (more, items) (AddAll-more [] _ c.loop-read.rows.items (fields_of c.read-item.result) c.in-Some.row c.loop-read.invariant.1 adds),
      rw items (All-push (λ (row : Appearance). IsLine row.line) c.loop-read.rows.items c.in-Some.row c.loop-read.invariant.2 c.in-Some.ensures.in_range),
    )
