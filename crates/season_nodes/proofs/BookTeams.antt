-- The team of an entry, by its rows.
use Rattle.std.proofs.Common.{◌≡◌, ℕ, ◌-◌, ◌<◌, ◌≤◌, nat_le, Bool, true, false, ◌&&◌, ⊎_elim, List, [], ◌∷◌, Option, Some, None, is_some, length, refl, sym, ap, ◌∙◌, arith}
use Rattle.std.specs.Prelude.{IfSome, slice_get, unwrap_or}
use Rattle.std.specs.Option.{option_map_or}
use Rattle.std.proofs.lemmas.Bool.Decides.{leb_tells}
use Rattle.std.proofs.lemmas.Option.{slice_get_within, slice_get_cases}
use Rattle.rule_book.specs.declared.team.Team.{Team}
use Rattle.season_ledger.specs.declared.row.Row.{Row}
use Rattle.season_ledger.specs.Rows.{first_in, is_begun_by, standing_at, team_in}
use Rattle.manager_book.specs.declared.manager.Manager.{Manager}
use Rattle.manager_book.specs.Calls.{team_at}
use Rattle.manager_book.specs.Managers.{Managers, season_of}
use Rattle.manager_book.proofs.Absent.{get_some}
use Rattle.season_nodes.specs.BookFacts.{no_team, team_told}

begun_rows : (rows : List Row) (g : ℕ) → is_begun_by rows g ≡ option_map_or (λ first. nat_le first g) (first_in rows) false
begun_rows [] g = refl
begun_rows (r ∷ rows) g = refl

-- whether an entry has begun, by what the managers' book tells
abbrev begun_told : Managers → ℕ → ℕ → Bool
begun_told managers e g = (nat_le 1 e && nat_le e (length managers.managers)) && option_map_or (λ first. nat_le first g) (first_in (season_of managers e)) false

within : (h n : ℕ) → h ≤ n → nat_le h n ≡ true
within h n e = ⊎_elim (λ a. a.0) (λ a. let x : n < h = a.1 in absurd (omega arith)) (leb_tells h n)

beyond : (h n : ℕ) → n < h → nat_le h n ≡ false
beyond h n e = ⊎_elim (λ a. let x : h ≤ n = a.1 in absurd (omega arith)) (λ a. a.0) (leb_tells h n)

all_true : (t u x : Bool) → t ≡ true → u ≡ true → x ≡ ((t && u) && x)
all_true true true x e d = refl
all_true true false x e d = absurd (cc)
all_true false u x e d = absurd (cc)

one_false : (t u x : Bool) → u ≡ false → false ≡ ((t && u) && x)
one_false true true x e = absurd (cc)
one_false true false x e = refl
one_false false u x e = refl

inside : (e n : ℕ) → 1 ≤ e → e - 1 < n → e ≤ n
inside e n one low = omega arith

outside : (e n : ℕ) → 1 ≤ e → n ≤ e - 1 → n < e
outside e n one high = omega arith

module _ (managers : Managers) (e g : ℕ) (m : Manager) (at : slice_get managers.managers (e - 1) ≡ Some m) where
  season : season_of managers e ≡ m.season
  season = ap (λ (x : Manager). x.season) (get_some managers.managers (e - 1) m at)

  told_case : (o : Option Team) → o ≡ team_at (season_of managers e) g → IfSome o (λ team. team ≡ team_told managers e g)
  told_case None i = tt
  told_case (Some team) i = ap (λ o. unwrap_or o no_team) i

  -- the team that stands is the one that is told
  pub issued_team : (team : Option Team) → team ≡ team_in (standing_at m.season g) → IfSome team (λ team. team ≡ team_told managers e g)
  issued_team team is = told_case team (is ∙ ap (λ rows. team_at rows g) (sym season))

  -- it stands where the entry has begun
  pub issued_begun : 1 ≤ e → (team : Option Team) → is_some team ≡ is_begun_by m.season g → is_some team ≡ begun_told managers e g
  issued_begun one team is =
      is ∙ begun_rows m.season g ∙ ap (λ rows. option_map_or (λ first. nat_le first g) (first_in rows) false) (sym season)
      ∙ all_true (nat_le 1 e) (nat_le e (length managers.managers)) (option_map_or (λ first. nat_le first g) (first_in (season_of managers e)) false)
      (within 1 e one) (within e (length managers.managers) (inside e (length managers.managers) one (slice_get_within managers.managers (e - 1) m at)))

past : (ms : List Manager) (i : ℕ) → slice_get ms i ≡ None → length ms ≤ i
past ms i none = ⊎_elim (λ r. absurd (clash r.0 (sym none ∙ r.2))) (λ r. r.0) (slice_get_cases ms i).1
  where
    clash : (m : Manager) → None ≡ Some m → ⊥
    clash m e = cc

-- an entry that was not issued has not begun
pub missing_begun : (managers : Managers) (e g : ℕ) → 1 ≤ e → slice_get managers.managers (e - 1) ≡ None → false ≡ begun_told managers e g
missing_begun managers e g one none = one_false (nat_le 1 e) (nat_le e (length managers.managers)) (option_map_or (λ first. nat_le first g) (first_in (season_of managers e)) false)
    (beyond e (length managers.managers) (outside e (length managers.managers) one (past managers.managers (e - 1) none)))
