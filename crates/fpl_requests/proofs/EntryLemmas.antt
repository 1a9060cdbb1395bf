-- Lists of numbers, in which whatever is wrong is named by the list anyway.
use Rattle.std.proofs.Common.{◌≡◌, ◌≤◌, ◌∙◌, ℕ, List, [], ◌∷◌, Bool, true, false, refl, sym, arith}
use Rattle.std.proofs.lemmas.Bool.Decides.{nat_tests}
use Rattle.std.proofs.lemmas.List.Elements.{All-cons, All-nil}
use Rattle.std.specs.Prelude.{All, ◌&&◌, nat_le, Option, Some, None, Result, Ok, Err, option_and_then}
use Rattle.serde_json.specs.Data.{Items, item, no_items}
use Rattle.fpl_requests.specs.declared.field.FieldName.{FieldName}
use Rattle.fpl_requests.specs.Members.{◌>>=◌, each, entry, in_range, number_in, or_wrong, under}

one_more : (list : FieldName) (o : Option ℕ) (r : Result (List ℕ) FieldName) → under list r ≡ r
    → under list (or_wrong list o >>= λ x. r >>= λ xs. Ok (x ∷ xs)) ≡ (or_wrong list o >>= λ x. r >>= λ xs. Ok (x ∷ xs))
one_more list None r h = refl
one_more list (Some n) (Ok xs) h = refl
one_more list (Some n) (Err e) h = h

pub under_entry : (list : FieldName) (low high : ℕ) (ds : Items) → under list (each (entry list low high) ds) ≡ each (entry list low high) ds
under_entry list low high no_items = refl
under_entry list low high (item d ds) = one_more list (number_in low high d) (each (entry list low high) ds) (under_entry list low high ds)

-- the numbers of such a list are no more than the greatest of the range

both : (a b : Bool) → (a && b) ≡ true → (a ≡ true) × (b ≡ true)
both true b h = (refl, h)
both false b h = absurd (cc h)

high_at : (low high n m : ℕ) (v : Bool) → (nat_le low n && nat_le n high) ≡ v → in_range low high n ≡ Some m → m ≤ high
high_at low high n m true e h =
    let parts = both (nat_le low n) (nat_le n high) e in
    let some : Some n ≡ Some m = rw e at h in
    let is : n ≡ m = cc some in
    grind (arith, nat_tests, parts.1, is)
high_at low high n m false e h = let none : None ≡ Some m = rw e at h in absurd (cc none)

number_high : (low high : ℕ) (o : Option ℕ) (m : ℕ) → option_and_then (in_range low high) o ≡ Some m → m ≤ high
number_high low high None m h = absurd (cc h)
number_high low high (Some n) m h = high_at low high n m (nat_le low n && nat_le n high) refl h

one_high : (list : FieldName) (high : ℕ) (o : Option ℕ) (r : Result (List ℕ) FieldName) (xs : List ℕ)
    → ((m : ℕ) → o ≡ Some m → m ≤ high) → ((ys : List ℕ) → r ≡ Ok ys → All (λ x. x ≤ high) ys)
    → (or_wrong list o >>= λ x. r >>= λ zs. Ok (x ∷ zs)) ≡ Ok xs → All (λ x. x ≤ high) xs
one_high list high None r xs low rest h = absurd (cc h)
one_high list high (Some n) (Err e) xs low rest h = absurd (cc h)
one_high list high (Some n) (Ok ys) xs low rest h =
    let is : xs ≡ n ∷ ys = cc h in
    rw is (All-cons (λ x. x ≤ high) n ys (low n refl) (rest ys refl))

each_high : (list : FieldName) (low high : ℕ) (ds : Items) (xs : List ℕ) → each (entry list low high) ds ≡ Ok xs → All (λ x. x ≤ high) xs
each_high list low high no_items xs h =
    let is : xs ≡ [] = cc h in
    rw is (All-nil (λ x. x ≤ high))
each_high list low high (item d ds) xs h =
    one_high list high (number_in low high d) (each (entry list low high) ds) xs (number_high low high _) (each_high list low high ds) h

pub entries_high : (list : FieldName) (low high : ℕ) (ds : Items) (xs : List ℕ)
    → under list (each (entry list low high) ds) ≡ Ok xs → All (λ x. x ≤ high) xs
entries_high list low high ds xs h = each_high list low high ds xs (sym (under_entry list low high ds) ∙ h)
