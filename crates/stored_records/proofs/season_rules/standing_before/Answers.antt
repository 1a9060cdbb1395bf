use Rattle.std.proofs.Common.{◌≡◌, ◌∙◌, Bool, List, ℕ, ap, filter}
use Rattle.std.specs.List.{count_by}
use Rattle.fpl_base.specs.declared.records.RecordKey.{RecordKey}
use Rattle.season_records.specs.Keys.{key_of}
use Rattle.season_records.specs.declared.slot.Slot.TheVariants as slot
use Rattle.stored_records.specs.SeasonRules.{stands_in}
use Rattle.stored_records.specs.Stored.{is_within}
use Rattle.stored_records.proofs.Loops.{count_kept}
use Rattle.stored_records.proofs.season_rules.standing_before.Goals as goal

pub returns : goal.returns
returns c =
    let keeps : RecordKey × List ℕ → Bool = λ row. is_within (key_of (slot.Fixture 0)) (key_of (slot.Fixture c.args.fixture)) row.0 in
    let is : c.part.result.now ≡ filter keeps c.args.stored.now = c.part.ensures ∙ (λ i. filter (λ row. is_within (c.key.ensures i) ((c.key-2.ensures ∙ ap (λ f. key_of (slot.Fixture f)) c.get.ensures.value) i) row.0) c.args.stored.now) in
    c.standing_in.ensures ∙ (ap (count_by (stands_in c.args.g)) is ∙ count_kept (stands_in c.args.g) keeps c.args.stored.now)
