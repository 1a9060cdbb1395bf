-- The values that a history tells are the ones that its rules allow.
use Rattle.std.proofs.Common.{◌≡◌, ◌+◌, ◌-◌, ℕ, Bool, true, false, List, [], ◌∷◌, Option, Some, None, arith, refl, sym, ap, subst, ◌∙◌, if◌then◌else◌}
use Rattle.fpl_base.specs.declared.kinds.Position.{Position}
use Rattle.fpl_base.specs.declared.kinds.Profile.{Profile}
use Rattle.rule_book.specs.declared.team.Team.{Team}
use Rattle.rule_book.specs.History.{Event, kept}
use Rattle.rule_book.specs.HistoryRules.{FirstTold}
use Rattle.rule_book.specs.HistorySquad.{earned, spent}
use Rattle.rule_book.specs.HistoryTeam.{IsTeam, TeamTold, is_begun}
use Rattle.rule_book.specs.HistoryTransfers.{FreeTold, free_at, is_past_first}
use Rattle.rule_book.specs.TeamOfHistory.{CanPay, FirstIsTheStart, FreeIsTold, TeamIsTheOne, TeamsAreTold, team_of, told_free, told_team}
use Rattle.rule_book.specs.UpTo.{start_of}

can_pay : (position : ℕ → Position) (h : List Event) (g : ℕ) (t : Team) → IsTeam position h g t → CanPay h g
can_pay position h g t i = let e : t.bank + spent (kept h g) ≡ 1000 + earned (kept h g) = i.bank in omega arith

is_the_one : (position : ℕ → Position) (h : List Event) (g : ℕ) (t : Team) → IsTeam position h g t → t ≡ team_of position h g
is_the_one position h g t i =
    let b : t.bank ≡ (1000 + earned (kept h g)) - spent (kept h g) = let e : t.bank + spent (kept h g) ≡ 1000 + earned (kept h g) = i.bank in omega arith in
    λ j. record { picks = i.picks j; captain = i.captain j; vice = i.vice j; bank = b j; chip = i.chip j }

is_a_team : (position : ℕ → Position) (h : List Event) (g : ℕ) → CanPay h g → IsTeam position h g (team_of position h g)
is_a_team position h g pays = record { picks = refl; captain = refl; vice = refl; bank = omega (arith, pays); chip = refl }

pub team_is_the_one : TeamIsTheOne
team_is_the_one position h g t =
    (λ i. (can_pay position h g t i, is_the_one position h g t i), λ p. subst (IsTeam position h g) (sym p.1) (is_a_team position h g p.0))

told_by : (position : ℕ → Position) (h : List Event) (g : ℕ) (told : Option Team) → TeamTold position h g told → told ≡ told_team position h g
told_by position h g None e = sym (ap (λ b. if b then Some (team_of position h g) else None) e)
told_by position h g (Some t) i = ap Some (is_the_one position h g t i.1) ∙ sym (ap (λ b. if b then Some (team_of position h g) else None) i.0)

said_by : (position : ℕ → Position) (h : List Event) (g : ℕ) (begun : Bool) → is_begun h g ≡ begun → CanPay h g → TeamTold position h g (if begun then Some (team_of position h g) else None)
said_by position h g true e pays = (e, is_a_team position h g pays)
said_by position h g false e pays = e

pub team_is_told : TeamsAreTold
team_is_told position h g = record { says = told_by position h g; said = said_by position h g (is_begun h g) refl }

first_of : (h : List Event) (told : Option ℕ) → FirstTold h told → told ≡ start_of h
first_of [] None e = refl
first_of [] (Some g) i = cc
first_of (e ∷ h) None i = cc
first_of (e ∷ h) (Some g) i = ap Some i.1

first_there : (h : List Event) → FirstTold h (start_of h)
first_there [] = refl
first_there (e ∷ h) = (refl, refl)

pub first_is_the_start : FirstIsTheStart
first_is_the_start h told = (first_of h told, λ e. subst (FirstTold h) (sym e) (first_there h))

free_by : (profile : Profile) (h : List Event) (g : ℕ) (told : Option ℕ) → FreeTold profile h g told → told ≡ told_free profile h g
free_by profile h g None e = sym (ap (λ b. if b then Some (free_at profile h g) else None) e)
free_by profile h g (Some n) i = ap Some i.1 ∙ sym (ap (λ b. if b then Some (free_at profile h g) else None) i.0)

free_there : (profile : Profile) (h : List Event) (g : ℕ) (past : Bool) → is_past_first h g ≡ past → FreeTold profile h g (if past then Some (free_at profile h g) else None)
free_there profile h g true e = (e, refl)
free_there profile h g false e = e

pub free_is_told : FreeIsTold
free_is_told profile h g told = (free_by profile h g told, λ e. subst (FreeTold profile h g) (sym e) (free_there profile h g (is_past_first h g) refl))
