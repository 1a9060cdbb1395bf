-- What holds where no rule of a list is broken.
use Rattle.std.proofs.Common.{◌≡◌, Bool, true, false, List, ◌∷◌, Option, Some, None, refl}
use Rattle.fpl_base.specs.declared.rule.Rule.{Rule}
use Rattle.rule_book.specs.Refusals.{first_broken, unless}

pub none_first : (broken : Option Rule) (more : List (Option Rule)) → first_broken (broken ∷ more) ≡ None → (broken ≡ None) × (first_broken more ≡ None)
none_first None more is = (refl, is)
none_first (Some rule) more is = absurd (cc)

pub holds : (b : Bool) (rule : Rule) → unless b rule ≡ None → b ≡ true
holds true rule is = refl
holds false rule is = absurd (cc)
