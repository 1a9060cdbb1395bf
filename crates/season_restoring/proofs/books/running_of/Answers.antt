use Rattle.std.proofs.Common.{◌≡◌, ◌∙◌, ℕ, List, ap, subst, sym}
use Rattle.std.specs.List.{AllByRecursion as Each}
use Rattle.std.specs.Option.{option_map}
use Rattle.fpl_base.specs.Keeping.{KeysRise, map_of}
use Rattle.rule_book.specs.Entries.{entry_in}
use Rattle.season_records.specs.Records.{cup_item}
use Rattle.season_records.specs.declared.slot.Slot.TheVariants as slot
use Rattle.stored_records.specs.Stored.{told}
use Rattle.store_validation.specs.Lawful.{judged}
use Rattle.rule_book.specs.declared.player.Player.{Player}
use Rattle.record_changes.specs.Ordered.{IsManagerInOrder}
use Rattle.season_restoring.specs.Books.{IsRunningInOrder, RunningTells}
use Rattle.season_restoring.proofs.BookLemmas.{in_step}
use Rattle.season_restoring.proofs.books.running_of.Goals as goal

pub of_parts-requires : goal.of_parts-requires
of_parts-requires c =
    in_step (map_of c.args.stored.now) c.args.season c.in_ok-managers.managers c.in_ok-leagues.leagues
    (c.in_ok-managers.ensures.profile ∙ c.profile.ensures) c.requires.facts c.in_ok-managers.ensures.early
    c.in_ok-managers.ensures.entries c.in_ok-leagues.ensures.entries

pub cups_of-requires-clause-rise : goal.cups_of-requires-clause-rise
cups_of-requires-clause-rise c = subst KeysRise (sym c.as_slice.ensures.rows) c.requires.rise

pub cups_of-requires-clause-lawful : goal.cups_of-requires-clause-lawful
cups_of-requires-clause-lawful c = ap judged c.as_slice.ensures.rows ∙ c.requires.lawful

pub returns-clause-told : goal.returns-clause-told
returns-clause-told c = subst (RunningTells (map_of c.args.stored.now)) (sym c.of_parts.ensures) (record {
  facts = c.requires.facts;
  entries = c.in_ok-managers.ensures.entries;
  teams = c.in_ok-managers.ensures.teams;
  transfers = c.in_ok-managers.ensures.transfers;
  leagues = c.in_ok-leagues.ensures.leagues;
  members = c.in_ok-leagues.ensures.members;
  cups = subst (λ rows. (k : ℕ) → option_map (cup_item k) (entry_in c.in_ok-cups.cups k) ≡ told (map_of rows) (slot.Cup k)) c.as_slice.ensures.rows c.in_ok-cups.ensures;
})

pub returns-clause-ordered : goal.returns-clause-ordered
returns-clause-ordered c = subst IsRunningInOrder (sym c.of_parts.ensures) (record {
  facts = c.requires.ordered;
  managers = subst (λ (players : List Player). Each (IsManagerInOrder players) c.in_ok-managers.managers.managers) c.players.ensures c.in_ok-managers.ensures.ordered;
  members = c.in_ok-leagues.ensures.ordered;
})
