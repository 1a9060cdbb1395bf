-- A command that begins a season.
use Rattle.std.proofs.Common.{◌≡◌, ◌∙◌, [], Option, Some, None, Ok, Result, ap, refl, subst, sym}
use Rattle.std.specs.Prelude.{IsOk, IsSome}
use Rattle.season_book.specs.Book.{Facts}
use Rattle.season_book.specs.Verdict.{begun}
use Rattle.season_book.specs.declared.answer.Answer.{Answer}
use Rattle.season_running.specs.Accepting.{IsNew}
use Rattle.season_running.specs.Standing.{Running}

-- the season that a command begins runs from its facts on, without entries
pub begins : (verdict : Result Facts Answer) (season : Facts) (running : Running) → verdict ≡ Ok season
    → running ≡ record { facts = season; managers = []; leagues = []; cups = [] } → (verdict ≡ Ok running.facts) × IsNew running
begins verdict season running is same = (
  is ∙ ap (λ (r : Running). Ok r.facts) (sym same),
  record {
    managers = ap (λ (r : Running). r.managers) same;
    leagues = ap (λ (r : Running). r.leagues) same;
    cups = ap (λ (r : Running). r.cups) same;
  },
)

pub ok_of : (verdict : Result Facts Answer) (season : Facts) → verdict ≡ Ok season → IsOk verdict
ok_of verdict season is = subst (λ (r : Result Facts Answer). IsOk r) (sym is) refl

-- and there is one
pub begun_some : (found : Option Facts) (season : Facts) → begun found ≡ Ok season → IsSome found
begun_some None season is = cc
begun_some (Some facts) season is = refl
