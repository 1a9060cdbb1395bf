-- What refuses the draw of a cup. Entries and cups are numbered from 1.
use Rattle.std.specs.Prelude.{ℕ, Bool, not, ◌==◌, List, [], ◌∷◌, filter, Option, nat_lt}
use Rattle.std.specs.List.{list_all}
use Rattle.fpl_base.specs.declared.rule.Rule.{Rule}
use Rattle.fpl_base.specs.declared.rule.Rule.TheVariants as rule
use Rattle.rule_book.specs.declared.cup.Bracket.{Bracket}
use Rattle.rule_book.specs.Cups.{wrong_cup}
use Rattle.rule_book.specs.Refusals.{first_broken, unless}

-- so many cups are in a season at most
abbrev pub most_cups : ℕ
most_cups = 32

-- the entries in some slots; the others are byes
abbrev pub entrants : List ℕ → List ℕ
entrants slots = filter (λ slot. not (slot == 0)) slots

-- why a cup is not drawn, in a season of so many gameweeks of which so many are locked: there are as many cups as there
-- can be; its start has passed; it can't be played, or one of its entries is not registered
abbrev pub cup_refusal : (ℕ → Bool) → ℕ → Bracket → ℕ → ℕ → Option Rule
cup_refusal registered count b gameweeks locked =
    first_broken (
    unless (nat_lt count most_cups) rule.CupsFull
    ∷ wrong_cup b gameweeks locked
    ∷ unless (list_all registered (entrants b.slots)) rule.DrawWrong
    ∷ [])
