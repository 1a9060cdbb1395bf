-- The order of keys.
use Rattle.std.proofs.Common.{◌≡◌, ℕ, Bool, true, false, ◌&&◌, ◌||◌, ◌==◌, nat_lt, refl, arith}
use Rattle.std.proofs.lemmas.Bool.Decides.{nat_tests}
use Rattle.fpl_base.specs.declared.records.RecordKey.{RecordKey as Key}
use Rattle.fpl_base.specs.Keeping.{precedes, is_same_key}

-- numbers that come first, and then what comes behind them
abbrev first_by : ℕ → ℕ → Bool → Bool
first_by m n behind = nat_lt m n || ((m == n) && behind)

first_by_trans : (m n o : ℕ) (r s t : Bool) → (r ≡ true → s ≡ true → t ≡ true) → first_by m n r ≡ true → first_by n o s ≡ true → first_by m o t ≡ true
first_by_trans m n o true true t h p q = let e = h refl refl in grind (arith, nat_tests)
first_by_trans m n o true false t h p q = grind (arith, nat_tests)
first_by_trans m n o false s t h p q = grind (arith, nat_tests)

pub precedes_trans : (x y z : Key) → precedes x y ≡ true → precedes y z ≡ true → precedes x z ≡ true
precedes_trans x y z =
    first_by_trans x.kind y.kind z.kind _ _ _ (first_by_trans x.a y.a z.a _ _ _ (first_by_trans x.b y.b z.b _ _ _ (λ p q. grind (arith, nat_tests))))

pub precedes_self : (x : Key) → precedes x x ≡ false
precedes_self x = grind (arith, nat_tests)

pub precedes_not_back : (x y : Key) → precedes x y ≡ true → is_same_key x y ≡ false
precedes_not_back x y p = grind (arith, nat_tests)

pub precedes_not_same : (x y : Key) → precedes y x ≡ true → is_same_key x y ≡ false
precedes_not_same x y p = grind (arith, nat_tests)

pub precedes_or : (x y : Key) → precedes x y ≡ false → is_same_key x y ≡ false → precedes y x ≡ true
precedes_or x y p q = grind (arith, nat_tests)

pub same_key : (x y : Key) → is_same_key x y ≡ true → x ≡ y
same_key x y p =
    let kind : x.kind ≡ y.kind = grind (arith, nat_tests) in
    let a : x.a ≡ y.a = grind (arith, nat_tests) in
    let b : x.b ≡ y.b = grind (arith, nat_tests) in
    let c : x.c ≡ y.c = grind (arith, nat_tests) in
    λ i. record { kind = kind i; a = a i; b = b i; c = c i }

pub same_key_self : (x : Key) → is_same_key x x ≡ true
same_key_self x = grind (arith, nat_tests)
