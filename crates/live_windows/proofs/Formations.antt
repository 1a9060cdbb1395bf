-- Which formations there are, and in which order they stand.
use Rattle.std.proofs.Common.{◌≡◌, refl, ℕ, ◌+◌, ◌<◌, ◌≤◌, Bool, true, false, ◌&&◌, ◌||◌, ◌==◌, not, List, [], ◌∷◌, length, get_or, nat_lt, nat_le, inl, inr, ◌⊎◌, arith, AllPairs, Contains}
use Rattle.std.specs.List.{list_all}
use Rattle.std.proofs.lemmas.Bool.{and_parts, cases_eq}
use Rattle.std.proofs.lemmas.Bool.Decides.{nat_tests}
use Rattle.std.proofs.lemmas.List.Kept.{AllPairs-cons}
use Rattle.std.proofs.lemmas.List.Sums.{AllPass-from_list_all}
use Rattle.rule_book.specs.Lineups.{is_formation}
use Rattle.season_book.specs.TeamOfTheWeek.{Formation, formation, formations}

-- one formation comes no later than another
abbrev pub no_later : Formation → Formation → Bool
no_later one other =
    nat_lt one.defenders other.defenders || (one.defenders == other.defenders && nat_le one.midfielders other.midfielders)

-- a test of each and each later one
all_later : (Formation → Formation → Bool) → List Formation → Bool
all_later test [] = true
all_later test (x ∷ xs) = list_all (test x) xs && all_later test xs

from_later : (test : Formation → Formation → Bool) (xs : List Formation) → all_later test xs ≡ true → AllPairs (λ a b. test a b ≡ true) xs
unfolding all_later
from_later test [] e = λ i j d less lt. absurd (omega (arith, lt))
from_later test (x ∷ xs) e =
    let parts = and_parts (list_all (test x) xs) (all_later test xs) e in
    AllPairs-cons (λ a b. test a b ≡ true) x xs (AllPass-from_list_all (test x) xs parts.0) (from_later test xs parts.1)

earlier_first : AllPairs (λ a b. not (no_later b a) ≡ true) formations
unfolding all_later
earlier_first = from_later (λ a b. not (no_later b a)) formations refl

not_true : (b : Bool) → not b ≡ true → b ≡ false
not_true true e = absurd (cc e)
not_true false e = refl

-- none that stands later comes no later
pub stands_earlier : (j k : ℕ) (d : Formation) → j < k → k < length formations → no_later (get_or formations k d) (get_or formations j d) ≡ false
stands_earlier j k d less lt = not_true (no_later (get_or formations k d) (get_or formations j d)) (earlier_first j k d less lt)

pub record InRange (d m f : ℕ) : Type 0 where
  pub low : 3 ≤ d
  pub high : d ≤ 5
  pub middle_low : 2 ≤ m
  pub middle_high : m ≤ 5
  pub front_low : 1 ≤ f
  pub front_high : f ≤ 3
  pub ten : (d + m) + f ≡ 10

in_range : (d m f : ℕ) → is_formation d m f ≡ true → InRange d m f
in_range d m f e = record {
  low = grind (arith, nat_tests);
  high = grind (arith, nat_tests);
  middle_low = grind (arith, nat_tests);
  middle_high = grind (arith, nat_tests);
  front_low = grind (arith, nat_tests);
  front_high = grind (arith, nat_tests);
  ten = grind (arith, nat_tests);
}

named : (a b c d m f : ℕ) → a ≡ d → b ≡ m → c ≡ f → formation a b c ≡ formation d m f
named a b c d m f one two three = λ i. formation (one i) (two i) (three i)

three_ways : (n a : ℕ) → a ≤ n → n ≤ a + 2 → (a ≡ n) ⊎ ((a + 1 ≡ n) ⊎ (a + 2 ≡ n))
three_ways n a low high = go (cases_eq a n) (cases_eq (a + 1) n)
  where
    go : (a ≡ n) ⊎ (a ≡ n → ⊥) → (a + 1 ≡ n) ⊎ (a + 1 ≡ n → ⊥) → (a ≡ n) ⊎ ((a + 1 ≡ n) ⊎ (a + 2 ≡ n))
    go (inl e) other = inl e
    go (inr apart) (inl e) = inr (inl e)
    go (inr apart) (inr further) = inr (inr (omega (arith, low, high, apart, further)))

-- each formation in which ten may stand is one of them
pub is_one : (d m f : ℕ) → is_formation d m f ≡ true → Contains formations (formation d m f)
is_one d m f e = go (in_range d m f e) (three_ways d 3 (in_range d m f e).low (let h = (in_range d m f e).high in omega (arith, h))) (three_ways f 1 (in_range d m f e).front_low (let h = (in_range d m f e).front_high in omega (arith, h)))
  where
    go : InRange d m f → (3 ≡ d) ⊎ ((4 ≡ d) ⊎ (5 ≡ d)) → (1 ≡ f) ⊎ ((2 ≡ f) ⊎ (3 ≡ f)) → Contains formations (formation d m f)
    go is (inl a) (inl b) = absurd (let ten = is.ten in let most = is.middle_high in omega (arith, ten, most, a, b))
    go is (inl a) (inr (inl b)) = (1, omega arith, named 3 5 2 d m f a (let ten = is.ten in omega (arith, ten, a, b)) b)
    go is (inl a) (inr (inr b)) = (0, omega arith, named 3 4 3 d m f a (let ten = is.ten in omega (arith, ten, a, b)) b)
    go is (inr (inl a)) (inl b) = (4, omega arith, named 4 5 1 d m f a (let ten = is.ten in omega (arith, ten, a, b)) b)
    go is (inr (inl a)) (inr (inl b)) = (3, omega arith, named 4 4 2 d m f a (let ten = is.ten in omega (arith, ten, a, b)) b)
    go is (inr (inl a)) (inr (inr b)) = (2, omega arith, named 4 3 3 d m f a (let ten = is.ten in omega (arith, ten, a, b)) b)
    go is (inr (inr a)) (inl b) = (7, omega arith, named 5 4 1 d m f a (let ten = is.ten in omega (arith, ten, a, b)) b)
    go is (inr (inr a)) (inr (inl b)) = (6, omega arith, named 5 3 2 d m f a (let ten = is.ten in omega (arith, ten, a, b)) b)
    go is (inr (inr a)) (inr (inr b)) = (5, omega arith, named 5 2 3 d m f a (let ten = is.ten in omega (arith, ten, a, b)) b)
