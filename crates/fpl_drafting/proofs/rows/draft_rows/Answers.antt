use Rattle.std.proofs.Common.{ap, Bor, List, ℕ, ◌≡◌, ◌∙◌, refl, rules, inl, inr, true, Some, ◌∷◌, [], ◌++◌, sym}
use Rattle.std.specs.Result.{is_ok}
use Rattle.csv.specs.declared.reader.ReaderBuilder.{ReaderBuilder}
use Rattle.csv.specs.Reading.{with_flexible, Reached, default_config, strip_bom}
use Rattle.csv.specs.Records.{fields_of}
use Rattle.csv.specs.declared.parser.State.TheVariants as st
use Rattle.csv.proofs.ReadFacts.{rows-end, rows-more}
use Rattle.fpl_reports.specs.Rows.{AddAll}
use Rattle.fpl_reports.proofs.RowLists.{AddAll-more, one_longer}
use Rattle.fpl_drafting.specs.Rows.{Adds}
use Rattle.fpl_drafting.proofs.RowLemmas.{rows-push}
use Rattle.fpl_drafting.proofs.rows.draft_rows.Goals as goal

pub loop-next-init : goal.loop-next-init
unfolding Reached AddAll
loop-next-init c =
    let fr = c.from_reader-reader.ensures in
    let e = c.flexible.ensures ∙ ap (λ (b : ReaderBuilder). with_flexible b true) c.has_headers.ensures in
    let start = c.into_iter-next-iterator.ensures.into_iter_gives ∙ refl in
    let rdr = c.into_byte_records-next-items.ensures.rdr in
    let left = c.into_byte_records-next-items.ensures.left in
    let none = c.new-rows.ensures.items in
    rw (start, rdr) (
      rw (e) at fr.trim ∙ c.new.ensures.trim,
      inr (inr (rw e at fr.has_headers, fr.headers)),
      left,
      rw e at fr.config ∙ c.new.ensures.config,
      strip_bom c.args.bytes.now,
      fr.source,
      [],
      (sym fr.state, refl),
      none,
      refl,
      rw none tt,
    )

pub loop-next-preserved : goal.loop-next-preserved
loop-next-preserved c =
    let inv = c.loop-next.invariant in
    let fields : List (List ℕ) = fields_of c.in-Ok.found in
    let s = rw (c.in-Some.is, c.in-Ok.is) at ((c.next.ensures.steps inv.2 inv.0).0 inv.1) in
    let good : is_ok c.extend_from_slice.result ≡ true = search rules in
    let items = rw good at c.extend_from_slice.ensures.items in
    let m = rows-more (λ (s : Bor (List ℕ)). Some s.now) c.loop-next.next-iterator.rdr c.next.new.self.rdr fields default_config st.StartRecord (strip_bom c.args.bytes.now) inv.4 inv.6 inv.3 inv.5 inv.7 s.0 in
    let row = c.in-Some-row_of.row in
    let rows = c.loop-next.rows.items in (
      s.0.3 ∙ inv.0,
      inl s.1,
      s.2,
      s.0.2 ∙ inv.3,
      m.0,
      m.1,
      inv.6 ++ fields ∷ [],
      m.2,
      rw items (AddAll-more (Adds c.args.members) [] inv.6 rows fields row inv.8 c.in-Some-row_of.ensures.row),
      one_longer inv.6 fields c.loop-next.number c.in-Some-checked_add.following inv.9 c.in-Some-checked_add.ensures.1,
      rw items (rows-push c.args.members rows row inv.10 c.in-Some-row_of.ensures.own),
    )

pub returns-in_default-row_of-clause-fault : goal.returns-in_default-row_of-clause-fault
returns-in_default-row_of-clause-fault c =
    let inv = c.loop-next.invariant in
    let fields : List (List ℕ) = fields_of c.in-Ok.found in
    let s = rw (c.in-Some.is, c.in-Ok.is) at ((c.next.ensures.steps inv.2 inv.0).0 inv.1) in
    let m = rows-more (λ (s : Bor (List ℕ)). Some s.now) c.loop-next.next-iterator.rdr c.next.new.self.rdr fields default_config st.StartRecord (strip_bom c.args.bytes.now) inv.4 inv.6 inv.3 inv.5 inv.7 s.0 in
    record {
      front = inv.6;
      fields = fields;
      rows = c.loop-next.rows.items;
      read = record { state = c.next.new.self.rdr.state; left = m.0; read = m.2 };
      place = inv.9;
      before = inv.8;
      wrong = c.in_default-row_of.ensures.row;
    }

pub returns-clause-rows : goal.returns-clause-rows
returns-clause-rows c =
    let inv = c.loop-next.invariant in
    let s = rw c.in-None.is at ((c.next.ensures.steps inv.2 inv.0).0 inv.1) in
    record {
      records = inv.6;
      read = (c.loop-next.next-iterator.rdr.state, inv.4, inv.7, rows-end (λ (s : Bor (List ℕ)). Some s.now) c.loop-next.next-iterator.rdr c.next.new.self.rdr [] default_config inv.4 inv.3 inv.5 s);
      rows_are = inv.8;
    }
