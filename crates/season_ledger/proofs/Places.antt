-- A row written at its place.
use Rattle.std.proofs.Common.{◌≡◌, ◌<◌, ◌≤◌, ◌∷◌, [], ◌++◌, ℕ, suc, true, false, cond, List, Some, length, set, arith, refl, ap, nat_eq}
use Rattle.season_ledger.specs.Rows.{put_row, place_at, row_at}
use Rattle.season_ledger.specs.declared.row.Standing.{Standing}
use Rattle.season_ledger.specs.declared.row.Row.{Row}

set_cons : (r : Row) (rows : List Row) (g : ℕ) (t : Standing) → (place_at rows g < length rows → set rows (place_at rows g) (record { gw = g; standing = t }) ≡ put_row rows g t)
    → place_at (r ∷ rows) g < length (r ∷ rows) → set (r ∷ rows) (place_at (r ∷ rows) g) (record { gw = g; standing = t }) ≡ put_row (r ∷ rows) g t
set_cons r rows g t more lt = elim (nat_eq r.gw g) as (λ b. cond b 0 (suc (place_at rows g)) < suc (length rows) → set (r ∷ rows) (cond b 0 (suc (place_at rows g))) (record { gw = g; standing = t }) ≡ cond b (record { gw = g; standing = t } ∷ rows) (r ∷ put_row rows g t))
    [ true ↦ (λ _. refl) | false ↦ (λ (l : suc (place_at rows g) < suc (length rows)). ap (λ xs. r ∷ xs) (more (omega arith))) ] lt

pub put_set : (rows : List Row) (g : ℕ) (t : Standing) → place_at rows g < length rows → set rows (place_at rows g) (record { gw = g; standing = t }) ≡ put_row rows g t
put_set [] g t lt = absurd (omega arith)
put_set (r ∷ rows) g t lt = set_cons r rows g t (put_set rows g t) lt

push_cons : (r : Row) (rows : List Row) (g : ℕ) (t : Standing) → (length rows ≤ place_at rows g → rows ++ record { gw = g; standing = t } ∷ [] ≡ put_row rows g t)
    → length (r ∷ rows) ≤ place_at (r ∷ rows) g → (r ∷ rows) ++ record { gw = g; standing = t } ∷ [] ≡ put_row (r ∷ rows) g t
push_cons r rows g t more le = elim (nat_eq r.gw g) as (λ b. suc (length rows) ≤ cond b 0 (suc (place_at rows g)) → r ∷ (rows ++ record { gw = g; standing = t } ∷ []) ≡ cond b (record { gw = g; standing = t } ∷ rows) (r ∷ put_row rows g t))
    [ true ↦ (λ (l : suc (length rows) ≤ 0). absurd (omega arith)) | false ↦ (λ (l : suc (length rows) ≤ suc (place_at rows g)). ap (λ xs. r ∷ xs) (more (omega arith))) ] le

pub put_push : (rows : List Row) (g : ℕ) (t : Standing) → length rows ≤ place_at rows g → rows ++ record { gw = g; standing = t } ∷ [] ≡ put_row rows g t
put_push [] g t le = refl
put_push (r ∷ rows) g t le = push_cons r rows g t (put_push rows g t) le

-- a row that is there has its place
pub place_there : (rows : List Row) (g : ℕ) (t : Standing) → row_at rows g ≡ Some t → place_at rows g < length rows
place_there [] g t e = cc
place_there (r ∷ rows) g t e = elim (nat_eq r.gw g) as (λ b. cond b (Some r.standing) (row_at rows g) ≡ Some t → cond b 0 (suc (place_at rows g)) < suc (length rows))
    [ true ↦ (λ _. omega arith) | false ↦ (λ (x : row_at rows g ≡ Some t). let i : place_at rows g < length rows = place_there rows g t x in omega arith) ] e
