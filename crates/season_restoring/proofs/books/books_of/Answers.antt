use Rattle.std.proofs.Common.{◌≡◌, ◌∙◌, ℕ, IfSome, ap, subst, sym}
use Rattle.std.specs.Option.{option_map}
use Rattle.fpl_base.specs.Keeping.{KeysRise, map_of}
use Rattle.rule_book.specs.ById.{at_id}
use Rattle.season_records.specs.Records.{last_item}
use Rattle.season_records.specs.declared.slot.Slot.TheVariants as slot
use Rattle.stored_records.specs.Stored.{told}
use Rattle.store_validation.specs.Lawful.{judged}
use Rattle.season_restoring.specs.Restored.{TellsFacts}
use Rattle.season_restoring.proofs.BookLemmas.{books_order, books_tell}
use Rattle.season_restoring.proofs.books.books_of.Goals as goal

pub lasts_of-requires-clause-rise : goal.lasts_of-requires-clause-rise
lasts_of-requires-clause-rise c = subst KeysRise (sym c.as_slice-rows.ensures.rows) c.requires.rise

pub lasts_of-requires-clause-lawful : goal.lasts_of-requires-clause-lawful
lasts_of-requires-clause-lawful c = ap judged c.as_slice-rows.ensures.rows ∙ c.requires.lawful

pub facts_of-requires-clause-rise : goal.facts_of-requires-clause-rise
facts_of-requires-clause-rise c = subst KeysRise (sym c.as_slice-rows.ensures.rows) c.requires.rise

pub facts_of-requires-clause-lawful : goal.facts_of-requires-clause-lawful
facts_of-requires-clause-lawful c = ap judged c.as_slice-rows.ensures.rows ∙ c.requires.lawful

pub running_if-requires-clause-none : goal.running_if-requires-clause-none
running_if-requires-clause-none c = λ none. sym c.as_slice-rows.ensures.rows ∙ c.in_ok-season.ensures.none none

pub running_if-requires-clause-told : goal.running_if-requires-clause-told
running_if-requires-clause-told c = subst (λ rows. IfSome c.in_ok-season.season (λ facts. TellsFacts (map_of rows) facts)) c.as_slice-rows.ensures.rows c.in_ok-season.ensures.told

pub returns-clause-told : goal.returns-clause-told
returns-clause-told c =
    let told_so = subst (λ rows. (k : ℕ) → option_map (last_item k) (at_id c.in_ok-lasts.lasts k) ≡ told (map_of rows) (slot.Last k)) c.as_slice-rows.ensures.rows c.in_ok-lasts.ensures.told in
    books_tell c.args.stored.now c.in_ok-lasts.lasts told_so c.in_ok-running.running c.in_ok-running.ensures

pub returns-clause-ordered : goal.returns-clause-ordered
returns-clause-ordered c = books_order c.args.stored.now c.in_ok-lasts.lasts c.in_ok-lasts.ensures.sorted c.in_ok-lasts.ensures.makes c.in_ok-running.running c.in_ok-running.ensures
