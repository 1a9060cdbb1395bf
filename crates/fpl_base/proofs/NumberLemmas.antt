-- Numbers in digits, written and read.
use Rattle.std.proofs.Common.{◌≡◌, ◌≢◌, ◌<◌, ◌^◌, ℕ, zero, suc, List, length, get_or, Result, Ok, arith, refl, sym}
use Rattle.std.specs.Fmt.{decimal}
use Rattle.std.specs.Str.{IsUtf8}
use Rattle.std.specs.Str.Parse.{ParsesUnsigned, AllDigits, digits_value}
use Rattle.std.proofs.lemmas.Fmt.{decimal_digit, first_decimal, IsAscii-decimal, parse-decimal, decimal-digits_value}
use Rattle.std.proofs.lemmas.Str.{IsUtf8-from_ascii}
use Rattle.std.proofs.lemmas.Str.Parse.{IsNumeralModel, numerals_by_value, tells_digits, parse_plain}

own : IsNumeralModel (AllDigits 10) (digits_value 10)
own = numerals_by_value _ tells_digits

-- no plus stands in front, and no zero but alone
pub decimal-front : (n : ℕ) → n < 2 ^ 64 → (get_or (decimal n) 0 0 ≢ 43) × (get_or (decimal n) 0 0 ≡ 48 → length (decimal n) ≡ 1)
decimal-front zero h = rw (decimal_digit 0 (omega arith)) (λ e. omega arith, λ _. refl)
decimal-front (suc n) h =
    let above : 48 < get_or (decimal (suc n)) 0 0 = first_decimal (suc n) (omega arith) (omega arith) in
    (λ e. omega arith, λ e. absurd (omega arith))

pub IsUtf8-decimal : (n : ℕ) → n < 2 ^ 64 → IsUtf8 (decimal n)
IsUtf8-decimal n h = IsUtf8-from_ascii (decimal n) (IsAscii-decimal n (omega arith))

pub parse_again : {E : Type 0} (n : ℕ) (bs : List ℕ) (r : Result ℕ E) → n < 2 ^ 64 → bs ≡ decimal n → ParsesUnsigned 64 10 bs r → r ≡ Ok n
parse_again n bs r h e p = parse-decimal 64 n bs r h (omega arith) e p

-- what is read as a number with such a front is what is written of it
pub parsed_is_decimal : {E : Type 0} (n : ℕ) (bs : List ℕ) (r : Result ℕ E) → r ≡ Ok n → ParsesUnsigned 64 10 bs r
    → (get_or bs 0 0 ≢ 43) → (get_or bs 0 0 ≡ 48 → length bs ≡ 1) → bs ≡ decimal n
parsed_is_decimal {E} n bs r e p plus zero_alone =
    let got = rw e at (parse_plain own 64 bs r p plus) in
    rw got.1 (sym (decimal-digits_value own bs got.0.0 got.0.1 zero_alone (omega (arith, got.0.2))))

pub ok_same : {E : Type 0} {a b : ℕ} (r : Result ℕ E) → r ≡ Ok a → r ≡ Ok b → a ≡ b
ok_same r p q = cc
