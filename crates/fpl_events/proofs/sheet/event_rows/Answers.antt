use Rattle.std.proofs.Common.{ap, Bor, List, ℕ, ◌≡◌, ◌∙◌, sym, refl, rules, inl, inr, true, Some, ◌∷◌, [], ◌++◌, length-append, arith}
use Rattle.std.specs.Result.{is_ok}
use Rattle.std.proofs.lemmas.List.Sums.{fold_push}
use Rattle.csv.specs.declared.reader.ReaderBuilder.{ReaderBuilder}
use Rattle.csv.specs.Reading.{with_flexible, Reached, default_config, strip_bom}
use Rattle.csv.specs.Records.{fields_of}
use Rattle.csv.specs.declared.parser.State.TheVariants as st
use Rattle.csv.proofs.ReadFacts.{rows-end, rows-more}
use Rattle.fpl_reports.specs.Rows.{AddAll}
use Rattle.fpl_reports.proofs.RowLists.{AddAll-more, one_longer}
use Rattle.fpl_events.specs.Rows.{Adds, IsDoable, events_after, events_behind}
use Rattle.fpl_events.proofs.RowLemmas.{after_small, doable-push}
use Rattle.fpl_events.proofs.sheet.event_rows.Goals as goal

pub loop-next-init : goal.loop-next-init
unfolding Reached AddAll
loop-next-init c =
    let fr = c.from_reader-reader.ensures in
    let e = c.flexible.ensures ∙ ap (λ (b : ReaderBuilder). with_flexible b true) c.has_headers.ensures in
    let start = c.into_iter-next-iterator.ensures.into_iter_gives ∙ refl in
    let rdr = c.into_byte_records-next-items.ensures.rdr in
    let left = c.into_byte_records-next-items.ensures.left in
    let none = c.new-rows.ensures.items in
    rw (start, rdr) (
      rw (e) at fr.trim ∙ c.new.ensures.trim,
      inr (inr (rw e at fr.has_headers, fr.headers)),
      left,
      rw e at fr.config ∙ c.new.ensures.config,
      strip_bom c.args.bytes.now,
      fr.source,
      [],
      (sym fr.state, refl),
      none,
      refl,
      sym (ap events_behind none),
      omega arith,
      rw none tt,
      rw none refl,
      omega arith,
    )

pub loop-next-preserved : goal.loop-next-preserved
loop-next-preserved c =
    let inv = c.loop-next.invariant in
    let fields : List (List ℕ) = fields_of c.in-Ok.found in
    let s = rw (c.in-Some.is, c.in-Ok.is) at ((c.next.ensures.steps inv.2 inv.0).0 inv.1) in
    let good : is_ok c.extend_from_slice.result ≡ true = search rules in
    let items = rw good at c.extend_from_slice.ensures.items in
    let m = rows-more (λ (s : Bor (List ℕ)). Some s.now) c.loop-next.next-iterator.rdr c.next.new.self.rdr fields default_config st.StartRecord (strip_bom c.args.bytes.now) inv.4 inv.6 inv.3 inv.5 inv.7 s.0 in
    let row = c.in-Some-row_of.row in
    let rows = c.loop-next.rows.items in
    let spelled : Adds c.args.minutes rows fields row = rw inv.10 at c.in-Some-row_of.ensures.row in
    let doable : IsDoable c.args.minutes (events_behind rows) row = rw inv.10 at c.in-Some-row_of.ensures.doable in
    let behind : events_behind (rows ++ row ∷ []) ≡ events_after (events_behind rows) row = fold_push events_after 0 rows row in (
      s.0.3 ∙ inv.0,
      inl s.1,
      s.2,
      s.0.2 ∙ inv.3,
      m.0,
      m.1,
      inv.6 ++ fields ∷ [],
      m.2,
      rw items (AddAll-more (Adds c.args.minutes) [] inv.6 rows fields row inv.8 spelled),
      one_longer inv.6 fields c.loop-next.number c.in-Some-checked_add.following inv.9 c.in-Some-checked_add.ensures.1,
      rw items (c.events_after-count.ensures ∙ ap (λ (n : ℕ). events_after n row) inv.10 ∙ sym behind),
      omega (arith, c.events_after-count.ensures, after_small c.loop-next.count row, inv.11, c.in-Some-checked_add.ensures.1),
      rw items (doable-push c.args.minutes 0 rows row inv.12 doable),
      rw items (omega (arith, length-append rows (row ∷ []), inv.13, c.in-Some-checked_add.ensures.1)),
      omega (arith, c.in-Some-checked_add.ensures.0, c.in-Some-checked_add.ensures.1),
    )

pub returns-in_default-row_of-clause-fault : goal.returns-in_default-row_of-clause-fault
returns-in_default-row_of-clause-fault c =
    let inv = c.loop-next.invariant in
    let fields : List (List ℕ) = fields_of c.in-Ok.found in
    let s = rw (c.in-Some.is, c.in-Ok.is) at ((c.next.ensures.steps inv.2 inv.0).0 inv.1) in
    let m = rows-more (λ (s : Bor (List ℕ)). Some s.now) c.loop-next.next-iterator.rdr c.next.new.self.rdr fields default_config st.StartRecord (strip_bom c.args.bytes.now) inv.4 inv.6 inv.3 inv.5 inv.7 s.0 in
    record {
      front = inv.6;
      fields = fields;
      rows = c.loop-next.rows.items;
      read = record { state = c.next.new.self.rdr.state; left = m.0; read = m.2 };
      place = inv.9;
      before = inv.8;
      wrong = rw inv.10 at c.in_default-row_of.ensures.row;
    }

pub returns-clause-rows : goal.returns-clause-rows
returns-clause-rows c =
    let inv = c.loop-next.invariant in
    let s = rw c.in-None.is at ((c.next.ensures.steps inv.2 inv.0).0 inv.1) in
    record {
      records = inv.6;
      read = (c.loop-next.next-iterator.rdr.state, inv.4, inv.7, rows-end (λ (s : Bor (List ℕ)). Some s.now) c.loop-next.next-iterator.rdr c.next.new.self.rdr [] default_config inv.4 inv.3 inv.5 s);
      rows_are = inv.8;
    }

pub row_of-requires : goal.row_of-requires
row_of-requires c = let inv = c.loop-next.invariant in omega (arith, inv.11, inv.14)

pub returns-clause-few : goal.returns-clause-few
returns-clause-few c = let inv = c.loop-next.invariant in omega (arith, inv.13, inv.14)
