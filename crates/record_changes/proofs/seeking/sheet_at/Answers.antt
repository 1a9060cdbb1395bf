use Rattle.std.proofs.Common.{◌≡◌, ◌==◌, List, ℕ, false, subst}
use Rattle.std.specs.List.{list_any}
use Rattle.record_changes.proofs.Found.{none_at, none_instead}
use Rattle.record_changes.proofs.seeking.sheet_at.Goals as goal

pub returns-in-None : goal.returns-in-None
returns-in-None c =
    none_instead c.fixture_among.result (λ id. id ≡ c.args.fixture)
    (λ none. none_at c.args.matches.now c.args.fixture (subst (λ (ids : List ℕ). list_any (λ id. id == c.args.fixture) ids ≡ false) c.fixtures.ensures none))
    c.fixture_among.ensures
