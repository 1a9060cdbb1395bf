-- Members, as the readers find them.
use Rattle.std.proofs.Common.{◌≡◌, ◌≢◌, ℕ, List, Bool, true, false, refl, sym}
use Rattle.std.proofs.lemmas.Slice.Eq.{bytes_eq-Decides}
use Rattle.std.specs.Prelude.{Option, Some, None, MatchOption}
use Rattle.std.specs.Str.{bytes_eq}
use Rattle.fpl_base.specs.Letters.{letter_of}
use Rattle.fpl_base.specs.declared.kinds.Position.{Position}
use Rattle.fpl_base.specs.declared.kinds.Position.TheVariants.{Keeper, Defender, Midfielder, Forward}
use Rattle.fpl_requests.specs.Members.{position_of}

false_where_not : (b : Bool) → (b ≡ true → ⊥) → b ≡ false
false_where_not true no_way = absurd (no_way refl)
false_where_not false no_way = refl

other_text : (a b : List ℕ) → a ≢ b → bytes_eq a b ≡ false
other_text a b other = false_where_not (bytes_eq a b) (λ e. other ((bytes_eq-Decides a b).0 e))

-- the position of a letter
of_letter : (p : Position) → position_of (letter_of p) ≡ Some p
of_letter Keeper = refl
of_letter Defender = refl
of_letter Midfielder = refl
of_letter Forward = refl

of_other : (letter : List ℕ) → ((p : Position) → letter ≢ letter_of p) → position_of letter ≡ None
of_other letter other =
    rw (
      other_text letter (letter_of Keeper) (other Keeper),
      other_text letter (letter_of Defender) (other Defender),
      other_text letter (letter_of Midfielder) (other Midfielder),
      other_text letter (letter_of Forward) (other Forward),
    ) refl

-- what tells positions by their letters is `position_of`
pub told_by_letter : (letter : List ℕ) (told : Option Position)
    → MatchOption told ((p : Position) → letter ≢ letter_of p) (λ p. letter ≡ letter_of p) → told ≡ position_of letter
told_by_letter letter None other = sym (of_other letter other)
told_by_letter letter (Some p) is = rw is (sym (of_letter p))
