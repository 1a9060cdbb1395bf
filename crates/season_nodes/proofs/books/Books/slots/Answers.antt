use Rattle.std.proofs.Common.{◌≤◌, length, sym, subst, rules}
use Rattle.leagues_and_cups.specs.Shapes.{HasShape}
use Rattle.leagues_and_cups.proofs.RoundFacts.{most_slots}
use Rattle.season_nodes.proofs.books.Books.slots.Goals as goal

pub returns-in-Some-clause-few : goal.returns-in-Some-clause-few
returns-in-Some-clause-few c =
    let shape : HasShape c.in-Some.bracket.now = search rules in
    subst (λ slots. length slots ≤ 1024) (sym c.as_slice.ensures) (most_slots c.in-Some.bracket.now shape)
