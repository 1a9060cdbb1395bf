-- Entries are there where managers stand for them.
use Rattle.std.proofs.Common.{◌≡◌, ◌<◌, ◌≤◌, ◌-◌, ℕ, zero, suc, false, List, [], ◌∷◌, Some, None, ◌==◌, if◌then◌else◌, length, slice_get, slice_index_or, arith, refl, ap, ◌∙◌}
use Rattle.std.proofs.lemmas.Bool.Decides.{nat_tests}
use Rattle.rule_book.specs.declared.player.Player.{Player}
use Rattle.manager_book.specs.declared.manager.Manager.{Manager}
use Rattle.manager_book.specs.Managers.{nobody}
use Rattle.season_book.specs.Book.{EntryFacts}
use Rattle.season_entries.specs.Entries.{AreEntries, IsEntry}
use Rattle.season_entries.specs.EntryLaws.{EntriesAreIssued}

-- the entry at a place, from 0
pub record EntryAt (players : List Player) (managers : List Manager) (entries : List EntryFacts) (place : ℕ) : Type 0 where
  pub entry : EntryFacts
  pub there : slice_get entries place ≡ Some entry
  pub stands : IsEntry players (slice_index_or managers place nobody) entry

moved : (players : List Player) (m : Manager) (managers : List Manager) (entry : EntryFacts) (entries : List EntryFacts) (place : ℕ) → EntryAt players managers entries place → EntryAt players (m ∷ managers) (entry ∷ entries) (suc place)
moved players m managers entry entries place at = record { entry = at.entry; there = at.there; stands = at.stands }

pub entry_at : (players : List Player) (managers : List Manager) (entries : List EntryFacts) (place : ℕ) → AreEntries players managers entries → place < length managers → EntryAt players managers entries place
entry_at players [] entries place are within = absurd (omega arith)
entry_at players (m ∷ managers) [] place are within = absurd are
entry_at players (m ∷ managers) (entry ∷ entries) zero are within = record { entry = entry; there = refl; stands = are.0 }
entry_at players (m ∷ managers) (entry ∷ entries) (suc place) are within =
    moved players m managers entry entries place (entry_at players managers entries place are.1 (omega arith))

-- there is no entry behind the managers
pub none_at : (players : List Player) (managers : List Manager) (entries : List EntryFacts) (place : ℕ) → AreEntries players managers entries → length managers ≤ place → slice_get entries place ≡ None
none_at players [] [] place are past = refl
none_at players [] (entry ∷ entries) place are past = absurd are
none_at players (m ∷ managers) [] place are past = absurd are
none_at players (m ∷ managers) (entry ∷ entries) zero are past = absurd (omega arith)
none_at players (m ∷ managers) (entry ∷ entries) (suc place) are past = none_at players managers entries place are.1 (omega arith)

some_number : (e : ℕ) → 1 ≤ e → (e == 0) ≡ false
some_number e one = grind (arith, nat_tests)

pub entries_issued : EntriesAreIssued
entries_issued players managers entries e are = record {
  there = λ one few.
      let at = entry_at players managers entries (e - 1) are (omega (arith, one, few)) in
      (at.entry, ap (λ b. if b then None else slice_get entries (e - 1)) (some_number e one) ∙ at.there, at.stands);
  none = λ past.
      ap (λ b. if b then None else slice_get entries (e - 1)) (some_number e (omega (arith, past))) ∙ none_at players managers entries (e - 1) are (omega (arith, past));
}
