-- The number that a text spells.
use Rattle.std.proofs.Common.{◌≡◌, ◌<◌, ◌≤◌, ◌^◌, ℕ, Bool, true, false, ◌&&◌, List, refl, sym, ap, ◌∙◌, arith}
use Rattle.std.specs.Prelude.{Option, Some, None, if◌then◌else◌, nat_le}
use Rattle.std.specs.Fmt.{decimal}
use Rattle.std.specs.Str.{bytes_eq}
use Rattle.std.specs.Str.Parse.{digits_value, AllDigits}
use Rattle.std.proofs.lemmas.Bool.{le-leb, leb-true}
use Rattle.std.proofs.lemmas.Fmt.{digits_value-decimal}
use Rattle.std.proofs.lemmas.Slice.Eq.{bytes_eq-Decides}
use Rattle.std.proofs.lemmas.Str.Parse.{IsNumeralModel, numerals_by_value, tells_digits}
use Rattle.command_line.specs.Values.{◌>>=◌, number_in, spelled, within}

own : IsNumeralModel (AllDigits 10) (digits_value 10)
own = numerals_by_value _ tells_digits

-- a text that is a number in decimal spells it
pub some_spelled : (text : List ℕ) (n : ℕ) → n < 2 ^ 64 → text ≡ decimal n → spelled text ≡ Some n
some_spelled text n small e =
    let same : digits_value 10 text ≡ n = ap (digits_value 10) e ∙ digits_value-decimal own n small in
    let eq : bytes_eq text (decimal (digits_value 10 text)) ≡ true = (bytes_eq-Decides _ _).1 (e ∙ ap decimal (sym same)) in
    rw eq (ap Some same)

below : (least greatest n : ℕ) → n < least → within least greatest n ≡ None
below least greatest n less = go (nat_le least n) (nat_le n greatest) (λ e. omega (arith, less, leb-true least n e))
  where
    go : (a b : Bool) → (a ≡ true → ⊥) → (if a && b then Some n else None) ≡ None
    go true b h = absurd (h refl)
    go false b h = refl

pub below_in : (least greatest n : ℕ) (text : List ℕ) → n < 2 ^ 64 → text ≡ decimal n → n < least → number_in least greatest text ≡ None
below_in least greatest n text small e less = ap (λ (o : Option ℕ). o >>= within least greatest) (some_spelled text n small e) ∙ below least greatest n less

pub some_in : (least greatest n : ℕ) (text : List ℕ) → n < 2 ^ 64 → text ≡ decimal n → least ≤ n → n ≤ greatest → number_in least greatest text ≡ Some n
some_in least greatest n text small e low high =
    ap (λ (o : Option ℕ). o >>= within least greatest) (some_spelled text n small e)
    ∙ rw (le-leb least n low, le-leb n greatest high) refl
