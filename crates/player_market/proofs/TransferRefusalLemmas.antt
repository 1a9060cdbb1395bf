-- The first rule that a batch breaks.
use Rattle.std.proofs.Common.{◌≡◌, ℕ, [], ◌∷◌, Option, Some, None, refl}
use Rattle.std.specs.Option.{option_map}
use Rattle.fpl_base.specs.declared.rule.Rule.{Rule}
use Rattle.fpl_base.specs.declared.rule.Rule.TheVariants as rule
use Rattle.rule_book.specs.Refusals.{first_broken}

-- the fifth rule is the first broken one
pub fifth_broken : (a b c d e : Option ℕ) (f : Option Rule) (club : ℕ) → None ≡ a → None ≡ b → None ≡ c → None ≡ d → Some club ≡ e
    → first_broken (option_map rule.NotHeld a ∷ option_map rule.Held b ∷ option_map rule.PlayerGone c ∷ option_map rule.PositionSwap d ∷ option_map rule.ClubLimit e ∷ f ∷ []) ≡ Some (rule.ClubLimit club)
fifth_broken a b c d e f club ha hb hc hd he = rw (← ha, ← hb, ← hc, ← hd, ← he) refl
