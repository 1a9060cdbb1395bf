-- Digits alone are a whole number.
use Rattle.std.proofs.Common.{◌≡◌, ◌∙◌, ap, sym, refl, subst, arith, append-nil, lt-ltb, ne_eqb, ℕ, ◌-◌, ◌^◌, ◌<◌, ◌≤◌, List, [], ◌∷◌, ◌++◌, get_or, length, false, Some}
use Rattle.std.proofs.Math.Nat.{pow-le-pow_right}
use Rattle.std.proofs.lemmas.Int.Digits.{digits_value-lt}
use Rattle.std.specs.Char.{digit_value}
use Rattle.std.specs.Str.Parse.{AllDigits, IsNumeral, digits_value}
use Rattle.fast_float.specs.Text.{IsWellFormed, Parts}
use Rattle.fast_float.proofs.Writing.{scan-text_of}
use Rattle.serde_json.specs.Data.{unsigned}
use Rattle.serde_json.specs.Read.{number_from, number_of}

abbrev digits : List ℕ → Parts
digits ds = record { whole = ds; point = false; fraction = []; exponent_negative = false; exponent = []; len = length (ds ++ []) }

no_minus : (ds : List ℕ) → AllDigits 10 ds → 0 < length ds → get_or ds 0 0 ≡ 45 → ⊥
no_minus [] h some e = omega arith
no_minus (d ∷ ds) h some e = let digit : digit_value d < 10 = h.0 in let is : d ≡ 45 = e in grind arith

from_text : (ds : List ℕ) → IsNumeral 10 ds → number_of (ds ++ []) ≡ number_from false (digits ds)
unfolding number_of
from_text ds h =
    let formed : IsWellFormed (digits ds) = record { whole_digits = h.1; fraction_digits = tt; exponent_digits = tt; no_point = λ _. refl; no_exponent = λ _. refl; len_is = refl } in
    let same : ds ++ [] ≡ ds = append-nil ds in
    let plain : get_or (ds ++ []) 0 0 ≡ 45 → ⊥ = λ e. no_minus ds h.1 h.0 (ap (λ s. get_or s 0 0) (sym same) ∙ e) in
    rw (ne_eqb (get_or (ds ++ []) 0 0) 45 plain) (ap (number_from false) (scan-text_of (digits ds) formed))

number_of-digits : (ds : List ℕ) → IsNumeral 10 ds → digits_value 10 ds < 2 ^ 64 → number_of ds ≡ Some (unsigned (digits_value 10 ds))
number_of-digits ds h fits =
    ap number_of (sym (append-nil ds)) ∙ from_text ds h ∙ rw (append-nil, lt-ltb _ _ h.0) (rw (lt-ltb _ _ fits))

-- digits of a value that fits are that whole number
pub number_of-few : (ds : List ℕ) (n : ℕ) → IsNumeral 10 ds × (digits_value 10 ds ≡ n) → n < 2 ^ 64 → number_of ds ≡ Some (unsigned n)
number_of-few ds n h fits = number_of-digits ds h.0 (subst (λ m. m < 2 ^ 64) (sym h.1) fits) ∙ ap (λ m. Some (unsigned m)) h.1

-- seventeen digits leave room for one more
pub short_value : (ds : List ℕ) → AllDigits 10 ds → length ds ≤ 17 → digits_value 10 ds < 10 ^ 17
short_value ds h short =
    let ten : 0 < 10 = omega arith in
    omega (arith, digits_value-lt 10 ds h, pow-le-pow_right {n = 10} ten short)

pub digit_value-low : (d : ℕ) → 48 ≤ d → d ≤ 57 → digit_value d ≡ d - 48
digit_value-low d low high = grind arith

all_but_last : (ds : List ℕ) (d : ℕ) → AllDigits 10 ds → digit_value d < 10 → AllDigits 10 (ds ++ d ∷ [])
all_but_last [] d h last = (last, tt)
all_but_last (x ∷ ds) d h last = (h.0, all_but_last ds d h.1 last)

-- one more digit
pub AllDigits-push : (ds : List ℕ) (d : ℕ) → AllDigits 10 ds → 48 ≤ d → d ≤ 57 → AllDigits 10 (ds ++ d ∷ [])
AllDigits-push ds d h low high = all_but_last ds d h (grind arith)
