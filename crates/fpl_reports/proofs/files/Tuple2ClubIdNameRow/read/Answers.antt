use Rattle.std.proofs.Common.{◌≡◌, ◌==◌, ℕ, List, arith, ap, sym, ◌∙◌}
use Rattle.std.specs.List.{list_any}
use Rattle.std.proofs.lemmas.Bool.{false≢true}
use Rattle.csv.specs.Records.{fields_of}
use Rattle.fpl_reports.proofs.FieldFacts.{same_first, spelled_once}
use Rattle.fpl_reports.proofs.files.Tuple2ClubIdNameRow.read.Goals as goal
use Rattle.fpl_reports.proofs.files.Tuple2ClubIdNameRow.read.Goals.{then-before-ge-MAX_CLUBS-via-then-before-ge-MAX_CLUBS, then-before-ge-MAX_CLUBS-via-else-before-ge-MAX_CLUBS+then-has_club}

pub returns-then-before-ge-MAX_CLUBS : goal.returns-then-before-ge-MAX_CLUBS
returns-then-before-ge-MAX_CLUBS c = λ club adds.
    let spells = c.in-Some-read_club.ensures in
    let field = same_first (fields_of c.args.read.now) _ _ _ _ c.in-Some.ensures adds.spelled.fields_are in
    let same : c.in-Some-read_club.id ≡ club.0 = spelled_once c.in-Some.id.now c.in-Some-read_club.id club.0 (omega (arith, spells.1)) (omega (arith, adds.spelled.id.1)) spells.2 field in
    elim c.then-before-ge-MAX_CLUBS.branch [
      | then-before-ge-MAX_CLUBS-via-then-before-ge-MAX_CLUBS w ↦ omega (arith, adds.few, w.if-before-ge-MAX_CLUBS.true)
      | then-before-ge-MAX_CLUBS-via-else-before-ge-MAX_CLUBS+then-has_club w ↦
          false≢true (sym adds.new_id ∙ ap (λ (n : ℕ). list_any (λ (earlier : ℕ × List ℕ). earlier.0 == n) c.args.before.now) (sym same) ∙ sym w.has_club.ensures ∙ w.if-has_club.true)
    ]
