-- What is found by an id, and who has a line.
use Rattle.std.proofs.Common.{◌≡◌, ℕ, ◌==◌, Bool, true, false, cond, List, [], ◌∷◌, Option, Some, refl, sym, ◌∙◌, ap, arith}
use Rattle.std.specs.List.{find}
use Rattle.std.proofs.lemmas.Bool.Decides.{nat_tests}
use Rattle.std.proofs.lemmas.Option.{same_Some}
use Rattle.rule_book.specs.declared.season.Fixture.{Fixture}

-- the fixture of an id has it
found_case : (x y : Fixture) (rest : Option Fixture) (f : ℕ) (t : Bool) → (x.id == f) ≡ t → cond t (Some x) rest ≡ Some y → (rest ≡ Some y → y.id ≡ f) → y.id ≡ f
found_case x y rest f true e found later = ap (λ z. z.id) (sym (same_Some x y found)) ∙ same x.id f e
  where
    same : (m n : ℕ) → (m == n) ≡ true → m ≡ n
    same m n i = grind (arith, nat_tests)
found_case x y rest f false e found later = later found

pub found_id : (xs : List Fixture) (f : ℕ) (y : Fixture) → find (λ x. x.id == f) xs ≡ Some y → y.id ≡ f
found_id [] f y found = cc
found_id (x ∷ xs) f y found = found_case x y (find (λ z. z.id == f) xs) f (x.id == f) refl found (λ e. found_id xs f y e)
