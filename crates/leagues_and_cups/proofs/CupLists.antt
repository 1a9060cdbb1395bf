-- Cups with one more.
use Rattle.std.proofs.Common.{arith, List, [], ◌∷◌, ◌++◌, ◌<◌, length}
use Rattle.std.proofs.lemmas.List.{length-append}
use Rattle.std.proofs.lemmas.List.Elements.{All-push}
use Rattle.rule_book.specs.declared.cup.Bracket.{Bracket}
use Rattle.rule_book.specs.CupCalls.{most_cups}
use Rattle.leagues_and_cups.specs.Shapes.{AreCups, HasShape}

pub cups_with : (cups : List Bracket) (b : Bracket) → AreCups cups → length cups < most_cups → HasShape b → AreCups (cups ++ b ∷ [])
cups_with cups b are room shape = record {
  most = omega (arith, length-append cups (b ∷ []));
  shapes = All-push HasShape cups b are.shapes shape;
}
