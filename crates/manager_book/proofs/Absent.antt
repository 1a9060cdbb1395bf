-- What is read of an entry that was not issued.
use Rattle.std.proofs.Common.{◌≡◌, ◌∷◌, [], ℕ, zero, suc, Bool, true, false, cond, ◌||◌, List, Option, Some, None, get_or, arith, refl, ap, ◌∙◌, subst, nat_eq}
use Rattle.std.specs.Prelude.{slice_get, IsSome, IfSome}
use Rattle.fpl_base.specs.declared.kinds.Position.{Position}
use Rattle.fpl_base.specs.declared.kinds.Profile.{Profile}
use Rattle.rule_book.specs.History.{Event}
use Rattle.rule_book.specs.HistoryRules.{FirstTold}
use Rattle.rule_book.specs.HistoryTeam.{TeamTold}
use Rattle.rule_book.specs.HistoryTransfers.{FreeTold, cost_at, counted_through}
use Rattle.season_ledger.specs.declared.row.Row.{Row}
use Rattle.season_ledger.specs.Rows.{counted_by}
use Rattle.season_ledger.specs.Stands.{StandsFor}
use Rattle.season_ledger.proofs.Season.{rows_tell}
use Rattle.manager_book.specs.declared.manager.Manager.{Manager}
use Rattle.manager_book.specs.Managers.{nobody}

nil_for : (position : ℕ → Position) (rows : List Row) (h : List Event) → rows ≡ [] → StandsFor position rows h → StandsFor position [] h
nil_for position rows h e st = subst (λ (r : List Row). StandsFor position r h) e st

pub none_team : (position : ℕ → Position) (rows : List Row) (h : List Event) (g : ℕ) → rows ≡ [] → StandsFor position rows h → TeamTold position h g None
none_team position rows h g e st = (rows_tell position [] h (nil_for position rows h e st)).team g

pub none_first : (position : ℕ → Position) (rows : List Row) (h : List Event) → rows ≡ [] → StandsFor position rows h → FirstTold h None
none_first position rows h e st = (rows_tell position [] h (nil_for position rows h e st)).first

pub none_free : (p : Profile) (position : ℕ → Position) (rows : List Row) (h : List Event) (g : ℕ) → rows ≡ [] → StandsFor position rows h → FreeTold p h g None
none_free p position rows h g e st = (rows_tell position [] h (nil_for position rows h e st)).free p g

pub none_cost : (p : Profile) (position : ℕ → Position) (rows : List Row) (h : List Event) (g : ℕ) → rows ≡ [] → StandsFor position rows h → 0 ≡ cost_at p h g
none_cost p position rows h g e st = (rows_tell position [] h (nil_for position rows h e st)).cost p g

abbrev nothing : Bool → ℕ
nothing b = cond b 0 0

nothing_is : (b : Bool) → nothing b ≡ 0
nothing_is true = refl
nothing_is false = refl

pub counted_nil : (n : ℕ) → 0 ≡ counted_by [] n
counted_nil zero = refl
counted_nil (suc n) = let i : 0 ≡ counted_by [] n = counted_nil n in let z : nothing (nat_eq (suc n) 0 || false) ≡ 0 = nothing_is (nat_eq (suc n) 0 || false) in omega (arith, i, z)

pub none_counted : (position : ℕ → Position) (rows : List Row) (h : List Event) (n : ℕ) → rows ≡ [] → StandsFor position rows h → 0 ≡ counted_through h n
none_counted position rows h n e st = counted_nil n ∙ (rows_tell position [] h (nil_for position rows h e st)).counted n

-- places of managers
pub get_some : (ms : List Manager) (i : ℕ) (m : Manager) → slice_get ms i ≡ Some m → get_or ms i nobody ≡ m
get_some [] i m e = cc
get_some (x ∷ ms) zero m e = cc
get_some (x ∷ ms) (suc i) m e = get_some ms i m e

pub get_none : (ms : List Manager) (i : ℕ) → slice_get ms i ≡ None → get_or ms i nobody ≡ nobody
get_none [] i e = refl
get_none (x ∷ ms) zero e = cc
get_none (x ∷ ms) (suc i) e = get_none ms i e

pub some_of : (o : Option ℕ) (w : ℕ) → IsSome o → IfSome o (λ g. g ≡ w) → o ≡ Some w
some_of None w s v = cc
some_of (Some g) w s v = ap Some v
