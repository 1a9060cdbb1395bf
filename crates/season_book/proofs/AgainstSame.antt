-- Where points of a gameweek are the same, so are those of whom a place meets.
use Rattle.std.proofs.Common.{◌≡◌, ℕ, ℤ, List, [], ◌∷◌, map, slice_index, refl, ap}
use Rattle.rule_book.specs.declared.pairing.Opponent.{Opponent}
use Rattle.rule_book.specs.declared.pairing.Opponent.TheVariants.{Place, Average}
use Rattle.rule_book.specs.LeagueRows.{points_against}
use Rattle.rule_book.specs.Opponents.{mean_of}

each : (f g : ℕ → ℤ) → ((e : ℕ) → f e ≡ g e) → (es : List ℕ) → map f es ≡ map g es
each f g same [] = refl
each f g same (e ∷ es) = let here = same e in let rest = each f g same es in λ i. here i ∷ rest i

pub against : (net other : ℕ → ℕ → ℤ) (order : List ℕ) (g : ℕ) → ((e : ℕ) → net e g ≡ other e g) → (opponent : Opponent) → points_against net order g opponent ≡ points_against other order g opponent
against net other order g same (Place j) = same (slice_index order j)
against net other order g same Average = ap mean_of (each (λ e. net e g) (λ e. other e g) same order)
