-- Tenths on either side of zero.
use Rattle.std.proofs.Common.{◌≡◌, ◌<◌, ◌≤◌, ◌++◌, ◌∙◌, ◌⊎◌, ℕ, Bool, true, false, inl, inr, arith, sym, ap, refl}
use Rattle.std.specs.Prelude.{◌&&◌, codes, nat_lt, if◌then◌else◌}
use Rattle.std.proofs.lemmas.Bool.{lt-ltb}
use Rattle.std.proofs.lemmas.Bool.Decides.{nat_tests}
use Rattle.season_book.specs.Decimals.{signed_tenths_text, tenths_text}

pub below_zero : (b : Bool) (tenths : ℕ) → b ≡ true → 0 < tenths → codes "-" ++ tenths_text tenths ≡ signed_tenths_text b tenths
below_zero b tenths is some =
    ap (λ c. if c then codes "-" ++ tenths_text tenths else tenths_text tenths) (sym (lt-ltb 0 tenths some))
    ∙ ap (λ c. if c && nat_lt 0 tenths then codes "-" ++ tenths_text tenths else tenths_text tenths) (sym is)

none : (b : Bool) (tenths : ℕ) → ((b ≡ true) × (tenths ≤ 0)) ⊎ (b ≡ false) → (b && nat_lt 0 tenths) ≡ false
none true tenths (inl h) = grind (arith, nat_tests, h.1)
none true tenths (inr h) = absurd (cc h)
none false tenths h = refl

pub not_below : (b : Bool) (tenths : ℕ) → ((b ≡ true) × (tenths ≤ 0)) ⊎ (b ≡ false) → tenths_text tenths ≡ signed_tenths_text b tenths
not_below b tenths h = ap (λ c. if c then codes "-" ++ tenths_text tenths else tenths_text tenths) (sym (none b tenths h))
