-- What keeps a running season in step.
use Rattle.std.proofs.Common.{◌≡◌, ◌≤◌, ◌++◌, ◌∷◌, [], ℕ, zero, suc, List, length, map, arith, refl, sym, ap, ◌∙◌, subst}
use Rattle.std.specs.Prelude.{Result, Ok, Err, OnOk, OnErr}
use Rattle.rule_book.specs.declared.player.Player.{Player}
use Rattle.rule_book.specs.Leagues.{LeagueFacts}
use Rattle.manager_book.specs.declared.manager.Manager.{Manager}
use Rattle.manager_book.specs.Managers.{Managers, rekeyed}
use Rattle.season_book.specs.Book.{Facts}
use Rattle.season_running.specs.Standing.{InStep}

-- there are as many as there are keys
long_map : {X Y : Type 0} (f : X → Y) (xs : List X) → length (map f xs) ≡ length xs
long_map f [] = refl
long_map f (x ∷ xs) = ap suc (long_map f xs)

pub as_many : {X Y : Type 0} (f : X → Y) (xs ys : List X) → map f ys ≡ map f xs → length ys ≡ length xs
as_many f xs ys same = sym (long_map f ys) ∙ ap length same ∙ long_map f xs

longer : {X : Type 0} (xs : List X) (x : X) → length xs ≤ length (xs ++ x ∷ [])
longer [] x = omega arith
longer (y ∷ xs) x = let behind = longer xs x in omega (arith, behind)

pub not_fewer : {T E : Type 0} (result : Result T E) (old new : Managers) (m : Manager) → OnOk result (new ≡ record old { managers = old.managers ++ m ∷ [] }) → OnErr result (new ≡ old)
    → length old.managers ≤ length new.managers
not_fewer (Ok value) old new m ok err = rw ok (longer old.managers m)
not_fewer (Err error) old new m ok err = rw err (omega arith)

as_many_rekeyed : (managers : List Manager) (e : ℕ) (key name : List ℕ) → length (rekeyed managers e key name) ≡ length managers
as_many_rekeyed [] e key name = refl
as_many_rekeyed (m ∷ managers) zero key name = refl
as_many_rekeyed (m ∷ managers) (suc zero) key name = refl
as_many_rekeyed (m ∷ managers) (suc (suc e)) key name = ap suc (as_many_rekeyed managers (suc e) key name)

pub none_fewer : {T E : Type 0} (result : Result T E) (old new : Managers) (e : ℕ) (key name : List ℕ) → OnOk result (new ≡ record old { managers = rekeyed old.managers e key name })
    → OnErr result (new ≡ old) → length old.managers ≤ length new.managers
none_fewer (Ok value) old new e key name ok err =
    let same : length new.managers ≡ length old.managers = ap (λ (m : Managers). length m.managers) ok ∙ as_many_rekeyed old.managers e key name in omega (arith, same)
none_fewer (Err error) old new e key name ok err = rw err (omega arith)

-- what holds of both that a call may leave holds of what it leaves
pub either : {T E X : Type 0} (P : X → Type 0) {old new after : X} (result : Result T E) → OnOk result (new ≡ after) → OnErr result (new ≡ old) → P after → P old → P new
either P (Ok value) ok err done same = subst P (sym ok) done
either P (Err error) ok err done same = subst P (sym err) same

-- another name and another position of a player leave it in step
pub in_step_amended : {T E : Type 0} (result : Result T E) (old new : Facts) (players : List Player) (managers : Managers) (leagues : List LeagueFacts)
    → OnOk result (new ≡ record old { players = players }) → OnErr result (new ≡ old) → InStep old managers leagues → InStep new managers leagues
in_step_amended (Ok value) old new players managers leagues ok err step =
    subst (λ facts. InStep facts managers leagues) (sym ok) (record { profile = step.profile; early = step.early; members = step.members })
in_step_amended (Err error) old new players managers leagues ok err step = subst (λ facts. InStep facts managers leagues) (sym err) step
