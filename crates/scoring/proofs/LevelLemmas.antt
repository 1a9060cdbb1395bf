-- What one more number does to the bonus by three levels.
use Rattle.std.proofs.Common.{◌≡◌, ◌<◌, ◌≤◌, ◌+◌, ◌-◌, ◌≤ℤ◌, ◌<ℤ◌, ℕ, ℤ, negsuc, cond, List, int_lt, arith, length, get_or, take, sym, ap}
use Rattle.std.proofs.lemmas.Int.{ints}
use Rattle.std.proofs.lemmas.List.Sums.{sum_by_more}
use Rattle.rule_book.specs.Bonus.{bonus_of, number_above}
use Rattle.scoring.specs.Levels.{numbers_at, greater, bonus_by, above}

abbrev nobody : ℤ
nobody = negsuc 2147483648

-- how many stand above a number at a level
abbrev at_level : ℤ → ℤ → ℕ
at_level level own = cond (int_lt nobody level) (above own level) 0

greater_at : (a b c own : ℤ) → greater (numbers_at a b c) own ≡ at_level a own + at_level b own + at_level c own
greater_at a b c own = grind arith

-- a level tells no more than a higher one
lower : (low high own : ℤ) → low ≤ℤ high → at_level low own ≤ at_level high own
lower low high own below = grind (arith, ints)

-- at most one stands there
few : (level own : ℤ) → at_level level own ≤ 1
few level own = grind arith

-- a number of 32 bits is somebody's
alone : (level own : ℤ) → nobody <ℤ level → at_level level own ≡ above own level
alone level own some = grind (arith, ints)

module _ (a b c n own : ℤ) (some : nobody <ℤ n) (second : b ≤ℤ a) (third : c ≤ℤ b) where
  pub new_first : a ≤ℤ n → bonus_by (numbers_at n a b) own ≡ bonus_by (numbers_at a b c) own - above own n
  new_first over = omega (arith, greater_at n a b own, greater_at a b c own, alone n own some, lower b a own second, lower c b own third, lower a n own over, few n own)

  pub new_second : n ≤ℤ a → b ≤ℤ n → bonus_by (numbers_at a n b) own ≡ bonus_by (numbers_at a b c) own - above own n
  new_second below over = omega (arith, greater_at a n b own, greater_at a b c own, alone n own some, lower b n own over, lower c b own third, lower n a own below, few a own)

-- one more of a table took part
pub one_more : (table : List (ℕ × ℤ)) (i : ℕ) (row : ℕ × ℤ) (own : ℤ) (old new : ℕ) → i < length table → row ≡ get_or table i row → old ≡ bonus_of (take i table) own
    → new ≡ old - above own row.1 → new ≡ bonus_of (take (i + 1) table) own
one_more table i row own old new within is so_far less =
    let more : number_above (take (i + 1) table) own ≡ number_above (take i table) own + above own (get_or table i row).1 = sum_by_more (λ (r : ℕ × ℤ). above own r.1) table i row within in
    let same : above own (get_or table i row).1 ≡ above own row.1 = ap (λ (r : ℕ × ℤ). above own r.1) (sym is) in
    omega arith
