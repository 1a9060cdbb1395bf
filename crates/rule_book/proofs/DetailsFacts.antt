-- Players of whom one has another name and another position.
use Rattle.std.proofs.Common.{◌≡◌, ◌≢◌, ◌==◌, ℕ, Bool, true, false, cond, if◌then◌else◌, List, [], ◌∷◌, Option, Some, None, is_some, arith, refl, sym, ap, subst, inl, inr, ◌∙◌}
use Rattle.std.specs.Option.{option_map, option_map_or}
use Rattle.std.proofs.lemmas.Bool.{cases_eq, false≢true}
use Rattle.std.proofs.lemmas.Bool.Decides.{nat_tests}
use Rattle.fpl_base.specs.declared.kinds.Position.{Position}
use Rattle.fpl_base.specs.declared.kinds.Position.TheVariants.{Keeper}
use Rattle.rule_book.specs.declared.player.Player.{Player}
use Rattle.rule_book.specs.PlayerFigures.{position_in}
use Rattle.rule_book.specs.Players.{player_of, with_details}

module _ (p : ℕ) (name : List ℕ) (position : Position) where
  abbrev pub amended : Player → Player
  amended x = record x { name = name; position = position }

  abbrev after : List Player → List Player
  after xs = with_details xs p name position

  -- he is found as he is now, and each other as before
  pub found_own : (xs : List Player) → player_of (after xs) p ≡ option_map amended (player_of xs p)
  found_own [] = refl
  found_own (x ∷ xs) = own_case (x.id == p) refl (found_own xs)
    where
      own_case : (b : Bool) → (x.id == p) ≡ b → player_of (after xs) p ≡ option_map amended (player_of xs p)
          → cond ((if b then amended x else x).id == p) (Some (if b then amended x else x)) (player_of (after xs) p) ≡ option_map amended (cond b (Some x) (player_of xs p))
      own_case true his rest = ap (λ t. cond t (Some (amended x)) (player_of (after xs) p)) his
      own_case false other rest = ap (λ t. cond t (Some x) (player_of (after xs) p)) other ∙ rest

  pub found_other : (xs : List Player) (q : ℕ) → q ≢ p → player_of (after xs) q ≡ player_of xs q
  found_other [] q n = refl
  found_other (x ∷ xs) q n = other_case (x.id == p) refl (found_other xs q n)
    where
      other_case : (b : Bool) → (x.id == p) ≡ b → player_of (after xs) q ≡ player_of xs q
          → cond ((if b then amended x else x).id == q) (Some (if b then amended x else x)) (player_of (after xs) q) ≡ cond (x.id == q) (Some x) (player_of xs q)
      other_case true his rest =
          let apart : (x.id == q) ≡ false = grind (arith, nat_tests, his, n) in
          ap (λ t. cond t (Some (amended x)) (player_of (after xs) q)) apart ∙ rest ∙ sym (ap (λ t. cond t (Some x) (player_of xs q)) apart)
      other_case false other rest = ap (λ o. cond (x.id == q) (Some x) o) rest

  there_as : (o : Option Player) → is_some (option_map amended o) ≡ is_some o
  there_as None = refl
  there_as (Some x) = refl

  pub still_there : (xs : List Player) (q : ℕ) → is_some (player_of (after xs) q) ≡ is_some (player_of xs q)
  still_there xs q = elim (cases_eq q p) [
    | inl same ↦ subst (λ k. is_some (player_of (after xs) k) ≡ is_some (player_of xs k)) (sym same) (ap is_some (found_own xs) ∙ there_as (player_of xs p))
    | inr other ↦ ap is_some (found_other xs q other)
  ]

  -- so are their positions
  pub other_position : (xs : List Player) (q : ℕ) → q ≢ p → position_in (after xs) q ≡ position_in xs q
  other_position xs q other = ap (λ o. option_map_or (λ (x : Player). x.position) o Keeper) (found_other xs q other)

  own_of : (o : Option Player) → is_some o ≡ true → option_map_or (λ (x : Player). x.position) (option_map amended o) Keeper ≡ position
  own_of None there = absurd (false≢true there)
  own_of (Some x) there = refl

  pub own_position : (xs : List Player) → is_some (player_of xs p) ≡ true → position_in (after xs) p ≡ position
  own_position xs there = ap (λ o. option_map_or (λ (x : Player). x.position) o Keeper) (found_own xs) ∙ own_of (player_of xs p) there
