use Rattle.std.proofs.Common.{◌≡◌, ◌∙◌, Bool, List, ℕ, ap, filter}
use Rattle.std.specs.List.{list_any}
use Rattle.fpl_base.specs.declared.records.RecordKey.{RecordKey}
use Rattle.season_records.specs.ItemReading.{item_of}
use Rattle.season_records.specs.Keys.{key_of}
use Rattle.season_records.specs.declared.slot.Slot.TheVariants as slot
use Rattle.stored_records.specs.Stored.{is_within}
use Rattle.stored_records.proofs.Loops.{any_kept}
use Rattle.store_validation.specs.LeagueRules.{has_key}
use Rattle.store_validation.proofs.league_rules.has_other_key.Goals as goal

pub returns : goal.returns
returns c =
    let test : RecordKey × List ℕ → Bool = λ row. has_key c.args.key.now (item_of row.0 row.1) in
    let keeps : RecordKey × List ℕ → Bool = λ row. is_within (key_of (slot.Entry 0)) (key_of (slot.Entry c.args.entry)) row.0 in
    let is : c.part.result.now ≡ filter keeps c.args.stored.now = c.part.ensures ∙ (λ i. filter (λ row. is_within (c.key.ensures i) ((c.key-2.ensures ∙ ap (λ f. key_of (slot.Entry f)) c.get.ensures.value) i) row.0) c.args.stored.now) in
    c.is_key_among.ensures ∙ (ap (list_any test) is ∙ any_kept test keeps c.args.stored.now)
