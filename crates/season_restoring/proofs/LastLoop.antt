-- The last commands of the first records, and of all.
use Rattle.std.proofs.Common.{◌≡◌, ◌∙◌, ◌<◌, ◌≤◌, ◌+◌, ℕ, List, [], length, get_or, take, None, refl, sym, ap, subst}
use Rattle.std.proofs.lemmas.Bool.{eqb-true}
use Rattle.std.proofs.lemmas.List.{take_all}
use Rattle.fpl_base.specs.Keeping.{KeysRise, applied_one, map_of}
use Rattle.fpl_base.specs.declared.records.Op.TheVariants.{Put}
use Rattle.fpl_base.specs.declared.records.RecordKey.{RecordKey as Key}
use Rattle.season_records.specs.Keys.{key_of}
use Rattle.season_records.specs.declared.slot.Slot.TheVariants as slot
use Rattle.season_book.specs.Book.{Last}
use Rattle.stored_records.specs.Stored.{Rows}
use Rattle.store_validation.specs.Lawful.{judged}
use Rattle.season_records.proofs.Orders.{none_sorted}
use Rattle.season_restoring.specs.Kinds.{is_of_kind}
use Rattle.season_restoring.specs.LastCommands.{AreLasts, IsLastRow}
use Rattle.season_restoring.proofs.KeptRows.{kept_by, map_kept, map_more, rise_kept, row_found, row_kept}
use Rattle.season_restoring.proofs.LastRows.{last_row, lasts_alike}

pub no_lasts : (lasts : List (ℕ × Last)) → lasts ≡ [] → AreLasts (map_of []) lasts
no_lasts lasts none = subst (AreLasts (map_of [])) (sym none) (record { sorted = none_sorted Last; told = λ c. refl; each = λ c last e. absurd (cc) })

module _ (rows part : Rows) (lawful : judged rows ≡ None) (rise : KeysRise rows) (is : part ≡ kept_by (λ k. is_of_kind 12 (k, [])) rows) where
  pub last_at : (i : ℕ) (row : Key × List ℕ) → i < length part → row ≡ get_or part i row → IsLastRow row.0 row.1
  last_at i row lt at =
      let kind = row_kept (λ k. is_of_kind 12 (k, [])) part i row rows is lt at in
      last_row rows lawful row.0 row.1 (row_found (λ k. is_of_kind 12 (k, [])) part i row rows rise is lt at) (eqb-true row.0.kind 12 kind)

  pub one_more : (i : ℕ) (row : Key × List ℕ) (lasts : List (ℕ × Last)) → i < length part → row ≡ get_or part i row → AreLasts (applied_one (map_of (take i part)) (Put row.0 row.1)) lasts → AreLasts (map_of (take (i + 1) part)) lasts
  one_more i row lasts lt at are =
      let up : KeysRise part = subst KeysRise (sym is) (rise_kept (λ k. is_of_kind 12 (k, [])) rows rise) in
      subst (λ m. AreLasts m lasts) (sym (map_more part i row up lt at)) are

  pub all_lasts : (i : ℕ) (lasts : List (ℕ × Last)) → length part ≤ i → AreLasts (map_of (take i part)) lasts → AreLasts (map_of rows) lasts
  all_lasts i lasts all are =
      lasts_alike (map_of (take i part)) (map_of rows) lasts
      (λ c. ap (λ l. map_of l (key_of (slot.Last c))) (take_all i part all) ∙ (ap (λ l. map_of l (key_of (slot.Last c))) is ∙ map_kept (λ k. is_of_kind 12 (k, [])) rows (key_of (slot.Last c)) refl)) are
