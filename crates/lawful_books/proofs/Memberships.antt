-- Who is a member, and in how many leagues an entry is, behind a new league, a new member and a draw.
use Rattle.std.proofs.Common.{◌≡◌, ◌≤◌, ◌+◌, ℕ, zero, suc, Bool, true, false, cond, ◌==◌, List, [], ◌∷◌, ◌++◌, length, filter, nat_lt, refl, sym, ap, ◌∙◌, ◌⊎◌, inl, inr, arith, length-append, if◌then◌else◌}
use Rattle.std.specs.List.{count_by, list_any}
use Rattle.std.proofs.lemmas.Bool.{cases_eq, or_right}
use Rattle.std.proofs.lemmas.Bool.Decides.{nat_tests}
use Rattle.std.proofs.lemmas.List.Folds.{list_any-append}
use Rattle.std.proofs.lemmas.List.Sums.{sum_by-append, sum_by-cons}
use Rattle.rule_book.specs.Entries.{changed_in}
use Rattle.rule_book.specs.LeagueCalls.{is_member, leagues_from, with_member}
use Rattle.rule_book.specs.Leagues.{LeagueFacts}
use Rattle.season_records.proofs.Finds.{member_beside}

-- Members.

pub joined : (league : LeagueFacts) (e : ℕ) → is_member (with_member e league) e ≡ true
joined league e =
    let ms : List ℕ = league.members in
    let test : ℕ → Bool = λ m. m == e in
    list_any-append test (filter (λ m. nat_lt m e) ms) (e ∷ filter (λ m. nat_lt e m) ms)
    ∙ or_right (list_any test (filter (λ m. nat_lt m e) ms)) (list_any test (e ∷ filter (λ m. nat_lt e m) ms)) (grind (arith, nat_tests))

pub joined_from : (league : LeagueFacts) (e x : ℕ) → is_member (with_member e league) x ≡ true → (x ≡ e) ⊎ (is_member league x ≡ true)
joined_from league e x is = elim (cases_eq x e) [
  | inl same ↦ inl same
  | inr other ↦ inr (member_beside league.members e x other ∙ is)
]

pub joined_stays : (league : LeagueFacts) (e x : ℕ) → is_member league x ≡ true → is_member (with_member e league) x ≡ true
joined_stays league e x is = elim (cases_eq x e) [
  | inl same ↦ ap (is_member (with_member e league)) same ∙ joined league e
  | inr other ↦ sym (member_beside league.members e x other) ∙ is
]

around : (e : ℕ) (ms : List ℕ) → length (filter (λ m. nat_lt m e) ms) + length (filter (λ m. nat_lt e m) ms) ≤ length ms
around e [] = omega arith
around e (m ∷ ms) = grind (arith, nat_tests, around e ms)

pub one_member_more : (league : LeagueFacts) (e : ℕ) → length (with_member e league).members ≤ length league.members + 1
one_member_more league e =
    omega (arith, around e league.members, length-append (filter (λ m. nat_lt m e) league.members) (e ∷ filter (λ m. nat_lt e m) league.members))

-- Leagues of an entry.

count_cons : (p : LeagueFacts → Bool) (x : LeagueFacts) (xs : List LeagueFacts) → count_by p (x ∷ xs) ≡ cond (p x) 1 0 + count_by p xs
count_cons p x xs = sum_by-cons (λ x. cond (p x) 1 0) x xs

pub leagues_count : (n : ℕ) (leagues : List LeagueFacts) (e : ℕ) → length (leagues_from n leagues e) ≡ count_by (λ league. is_member league e) leagues
leagues_count n [] e = refl
leagues_count n (league ∷ leagues) e =
    by (is_member league e) (leagues_from (n + 1) leagues e) (count_by (λ league. is_member league e) leagues) (leagues_count (n + 1) leagues e)
    ∙ sym (count_cons (λ league. is_member league e) league leagues)
  where
    by : (b : Bool) (ids : List ℕ) (k : ℕ) → length ids ≡ k → length (if b then n ∷ ids else ids) ≡ cond b 1 0 + k
    by true ids k same = omega (arith, same)
    by false ids k same = omega (arith, same)

pub count_more : (p : LeagueFacts → Bool) (leagues : List LeagueFacts) (new : LeagueFacts) → count_by p (leagues ++ new ∷ []) ≡ count_by p leagues + cond (p new) 1 0
count_more p leagues new = sum_by-append (λ x. cond (p x) 1 0) leagues (new ∷ []) ∙ omega arith

module _ (p : LeagueFacts → Bool) (change : LeagueFacts → LeagueFacts) where
  pub count_same : ((x : LeagueFacts) → p (change x) ≡ p x) → (leagues : List LeagueFacts) (l : ℕ) → count_by p (changed_in change leagues l) ≡ count_by p leagues
  count_same same [] l = refl
  count_same same (x ∷ xs) zero = refl
  count_same same (x ∷ xs) (suc zero) = count_cons p (change x) xs ∙ (ap (λ b. cond b 1 0 + count_by p xs) (same x) ∙ sym (count_cons p x xs))
  count_same same (x ∷ xs) (suc (suc l)) =
      count_cons p x (changed_in change xs (suc l)) ∙ (ap (λ n. cond (p x) 1 0 + n) (count_same same xs (suc l)) ∙ sym (count_cons p x xs))

  pub count_changed : (leagues : List LeagueFacts) (l : ℕ) → count_by p (changed_in change leagues l) ≤ count_by p leagues + 1
  count_changed [] l = omega arith
  count_changed (x ∷ xs) zero = omega arith
  count_changed (x ∷ xs) (suc zero) = omega (arith, count_cons p (change x) xs, count_cons p x xs, few (p (change x)) (p x))
    where
      few : (a b : Bool) → cond a 1 0 ≤ cond b 1 0 + 1
      few true true = omega arith
      few true false = omega arith
      few false true = omega arith
      few false false = omega arith
  count_changed (x ∷ xs) (suc (suc l)) = omega (arith, count_changed xs (suc l), count_cons p x xs, count_cons p x (changed_in change xs (suc l)))
