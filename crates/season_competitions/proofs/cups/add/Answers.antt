use Rattle.std.proofs.Common.{List, ℕ, subst, sym}
use Rattle.leagues_and_cups.specs.Shapes.{HasShape}
use Rattle.rule_book.specs.declared.cup.Bracket.{Bracket}
use Rattle.season_competitions.proofs.CupFacts.{can_add}
use Rattle.season_competitions.proofs.cups.add.Goals as goal

pub add-requires : goal.add-requires
add-requires c =
    let can = can_add c.unbroken_cups_have_shape.ensures c.args.season.now c.args.cups.now c.args.start c.args.slots.now c.args.coins.now c.requires.granted in
    let b : List ℕ → List ℕ → Bracket = λ slots coins. record { start = c.args.start; slots = slots; coins = coins } in
    record {
      shape =
          subst (λ (k : List ℕ). HasShape (b c.in_ok-slots.slots k)) (sym c.in_ok-coins.ensures)
          (subst (λ (s : List ℕ). HasShape (b s c.args.coins.now)) (sym c.in_ok-slots.ensures) can.shape);
    }
