-- One entry changes, and the others stay.
use Rattle.std.proofs.Common.{◌≡◌, ◌≢◌, ◌≤◌, ◌-◌, ◌∷◌, [], ℕ, zero, suc, List, map, set, get_or, arith, refl, ap}
use Rattle.fpl_base.specs.declared.kinds.Profile.{Profile}
use Rattle.rule_book.specs.declared.transfers.Sale.{Sale}
use Rattle.season_ledger.specs.declared.row.Row.{Row}
use Rattle.manager_book.specs.declared.manager.Manager.{Manager}
use Rattle.manager_book.specs.Managers.{IsSameBut, nobody}

get_other : (ms : List Manager) (i j : ℕ) (m : Manager) → i ≢ j → get_or (set ms i m) j nobody ≡ get_or ms j nobody
get_other [] i j m n = refl
get_other (x ∷ ms) zero zero m n = absurd (n refl)
get_other (x ∷ ms) zero (suc j) m n = refl
get_other (x ∷ ms) (suc i) zero m n = refl
get_other (x ∷ ms) (suc i) (suc j) m n = get_other ms i j m (λ e. n (ap suc e))

keys_stay : (ms : List Manager) (i : ℕ) (m : Manager) (s : List Row) (t : List (ℕ × Sale)) → m ≡ get_or ms i m → map {B = List ℕ × List ℕ} (λ x. (x.key, x.name)) (set ms i (record { key = m.key; name = m.name; season = s; sales = t })) ≡ map {B = List ℕ × List ℕ} (λ x. (x.key, x.name)) ms
keys_stay [] i m s t e = refl
keys_stay (x ∷ ms) zero m s t e = ap {B = List (List ℕ × List ℕ)} (λ (z : Manager). (z.key, z.name) ∷ map {B = List ℕ × List ℕ} (λ y. (y.key, y.name)) ms) e
keys_stay (x ∷ ms) (suc i) m s t e = ap (λ l. (x.key, x.name) ∷ l) (keys_stay ms i m s t e)

pub same_but : (e i : ℕ) (p : Profile) (ms : List Manager) (m : Manager) (s : List Row) (t : List (ℕ × Sale)) → 1 ≤ e → i ≡ e - 1 → m ≡ get_or ms i m → IsSameBut e (record { profile = p; managers = ms }) (record { profile = p; managers = set ms i (record { key = m.key; name = m.name; season = s; sales = t }) })
same_but e i p ms m s t le q g = record {
  profile = refl;
  keys = keys_stay ms i m s t g;
  others = λ d ld n. ap (λ (x : Manager). x.season) (other d ld n);
  sales = λ d ld n. ap (λ (x : Manager). x.sales) (other d ld n);
}
  where
    other : (d : ℕ) → 1 ≤ d → d ≢ e → get_or (set ms i (record { key = m.key; name = m.name; season = s; sales = t })) (d - 1) nobody ≡ get_or ms (d - 1) nobody
    other d ld n = get_other ms i (d - 1) (record { key = m.key; name = m.name; season = s; sales = t }) (λ x. n (omega (arith, x, q, ld, le)))
