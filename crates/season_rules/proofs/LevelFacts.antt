-- The levels of ties.
use Rattle.std.proofs.Common.{◌≡◌, ℕ, ◌<◌, ◌≤◌, true, Option, Some, None, length, refl, arith}
use Rattle.std.specs.Option.{unwrap_or}
use Rattle.rule_book.specs.Entries.{entry_in}
use Rattle.rule_book.specs.declared.cup.Bracket.{Bracket}
use Rattle.season_nodes.specs.declared.nodes.Node.TheVariants as node
use Rattle.season_nodes.specs.Brackets.{no_bracket}
use Rattle.season_nodes.specs.Season.{IsSeason, SeasonFacts, bracket_of, is_live}
use Rattle.season_nodes.specs.SeasonLaws.{tie_alive}
use Rattle.leagues_and_cups.proofs.RoundFacts.{most_slots}
use Rattle.season_nodes.specs.TieLaws.{few_rounds}

few_case : (b : SeasonFacts) (is : IsSeason b) (c : ℕ) (o : Option Bracket) → entry_in b.cups c ≡ o → length (unwrap_or o no_bracket).slots ≤ 1024
few_case b is c None at = omega arith
few_case b is c (Some bracket) at = most_slots bracket (is.brackets c bracket at)

-- a live tie has fewer than ten rounds before it
pub few_before : (b : SeasonFacts) (is : IsSeason b) (c r i : ℕ) → is_live b (node.Tie c r i) ≡ true → r < 10
few_before b is c r i live = few_rounds (length (bracket_of b c).slots) r i (few_case b is c (entry_in b.cups c) refl) (tie_alive b c r i live).1
