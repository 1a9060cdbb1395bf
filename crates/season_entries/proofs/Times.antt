-- Nothing is done in a later gameweek than the next.
use Rattle.std.proofs.Common.{◌≡◌, ◌-◌, ℕ, zero, suc, List, [], ◌∷◌, Option, Some, None, IfSome, get_or, sym, subst}
use Rattle.season_ledger.specs.declared.row.Row.{Row}
use Rattle.season_ledger.specs.Rows.{AllUpTo}
use Rattle.manager_book.specs.declared.manager.Manager.{Manager}
use Rattle.manager_book.specs.Managers.{Managers, nobody, season_of}
use Rattle.season_entries.specs.Deeds.{AreInTime, IsInTime}

pub nothing_in_time : (next : Option ℕ) → IsInTime next []
nothing_in_time None = tt
nothing_in_time (Some g) = tt

pub in_time_of : (next : Option ℕ) (managers : List Manager) (i : ℕ) → AreInTime next managers → IsInTime next (get_or managers i nobody).season
in_time_of next [] i a = nothing_in_time next
in_time_of next (m ∷ managers) zero a = a.0
in_time_of next (m ∷ managers) (suc i) a = in_time_of next managers i a.1

-- so of each entry
pub in_time_at : (next found : Option ℕ) (book : Managers) (e : ℕ) → found ≡ next → AreInTime next book.managers → IfSome found (λ g. AllUpTo g (season_of book e))
in_time_at next found book e same a = subst (λ o. IsInTime o (season_of book e)) (sym same) (in_time_of next book.managers (e - 1) a)

-- so of the rows of an entry in the gameweek that is next
pub up_to_next : (next : Option ℕ) (g : ℕ) (managers : Managers) (e : ℕ) (rows : List Row) → next ≡ Some g → rows ≡ season_of managers e → AreInTime next managers.managers → AllUpTo g rows
up_to_next next g managers e rows is same a =
    subst (AllUpTo g) (sym same) (subst (λ (o : Option ℕ). IsInTime o (season_of managers e)) is (in_time_of next managers.managers (e - 1) a))
