-- What an entry's rows say of a gameweek that is not before any of them.
use Rattle.std.proofs.Common.{◌≡◌, ◌≤◌, ◌∷◌, [], ℕ, true, List, Option, Some, None, arith, refl, sym, ap, ◌∙◌, is_some}
use Rattle.std.specs.List.{AllByRecursion as Each}
use Rattle.std.specs.Prelude.{All}
use Rattle.std.proofs.lemmas.Bool.Decides.{nat_tests}
use Rattle.std.proofs.lemmas.List.Elements.{All-head, All-tail}
use Rattle.fpl_base.specs.declared.kinds.Chip.{Chip}
use Rattle.fpl_base.specs.declared.kinds.Chip.TheVariants.{None as NoChip, Wildcard, FreeHit, BenchBoost, TripleCaptain}
use Rattle.rule_book.specs.HistoryTransfers.{is_same_chip}
use Rattle.season_ledger.specs.declared.row.Standing.{Standing}
use Rattle.season_ledger.specs.declared.row.Row.{Row}
use Rattle.season_ledger.specs.Rows.{AllUpTo, standing_at, row_at, base_at, or_else, carried, chip_in, chip_by, begun, is_begun_by, first_in}
use Rattle.season_ledger.specs.Batches.{CanPlay}

-- it is registered where it has begun
pub begun_registered : (rows : List Row) (g : ℕ) → AllUpTo g rows → is_begun_by rows g ≡ is_some (first_in rows)
begun_registered [] g up = refl
begun_registered (r ∷ rows) g up = let l : r.gw ≤ g = up.0 in grind (arith, nat_tests)

-- the chip that stands is the gameweek's
pub chip_standing : (rows : List Row) (g : ℕ) (s : Standing) → standing_at rows g ≡ Some s → s.team.chip ≡ chip_by rows g
chip_standing rows g s e = by_row (row_at rows g) (base_at rows g) e
  where
    by_row : (o : Option Standing) (k : Option Row) → or_else o (carried k) ≡ Some s → s.team.chip ≡ chip_in o
    by_row (Some t) k e = let x : t ≡ s = cc in ap (λ (v : Standing). v.team.chip) (sym x)
    by_row None None e = cc
    by_row None (Some r) e = let x : record { made = 0; team = record r.standing.team { chip = NoChip } } ≡ s = cc in ap (λ (v : Standing). v.team.chip) (sym x)

same_none : (c : Chip) → is_same_chip c NoChip ≡ true → c ≡ NoChip
same_none NoChip e = refl
same_none Wildcard e = cc
same_none FreeHit e = cc
same_none BenchBoost e = cc
same_none TripleCaptain e = cc

pub can_play : (rows : List Row) (g : ℕ) → begun (standing_at rows g) ≡ is_begun_by rows g → AllUpTo g rows → is_some (first_in rows) ≡ true → is_same_chip (chip_by rows g) NoChip ≡ true → CanPlay (standing_at rows g)
can_play rows g b up r n = by_case (standing_at rows g) refl (b ∙ begun_registered rows g up ∙ r)
  where
    by_case : (o : Option Standing) → standing_at rows g ≡ o → begun o ≡ true → CanPlay o
    by_case None e t = cc
    by_case (Some s) e t = chip_standing rows g s e ∙ same_none (chip_by rows g) n

pub all_each : {A : Type 0} (P : A → Type 0) (xs : List A) → All P xs → Each P xs
all_each P [] a = tt
all_each P (x ∷ xs) a = (All-head P x xs a, all_each P xs (All-tail P x xs a))
