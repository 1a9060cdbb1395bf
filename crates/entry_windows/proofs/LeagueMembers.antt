-- A member of a league stands among its members.
use Rattle.std.proofs.Common.{◌≡◌, ◌<◌, ◌==◌, ℕ, List, true, Contains, arith, get_or, length, map, ap, ◌∙◌}
use Rattle.std.specs.List.{list_any}
use Rattle.std.proofs.lemmas.Bool.Decides.{nat_tests}
use Rattle.std.proofs.lemmas.List.{get_or-map, get_or_default}
use Rattle.std.proofs.lemmas.List.Folds.{Any-from_list_any}

same_number : (a e : ℕ) → (a == e) ≡ true → a ≡ e
same_number a e is = grind (arith, nat_tests, is)

pub member_stands : (members : List ℕ) (e : ℕ) → list_any (λ member. member == e) members ≡ true → Contains members e
member_stands members e is =
    let any = Any-from_list_any (λ member. member == e) members is in
    (any.0, any.2, get_or_default members any.0 e any.1 any.2 ∙ any.3 ∙ same_number any.1 e any.4)

-- what a function gives of a member stands at its place
pub at_member : {X : Type 0} (f : ℕ → X) (members : List ℕ) (values : List X) (place e : ℕ) (d : X) → values ≡ map f members → place < length members → get_or members place 0 ≡ e → get_or values place d ≡ f e
at_member f members values place e d are within at = ap (λ vs. get_or vs place d) are ∙ get_or-map f members place 0 d within ∙ ap f at
