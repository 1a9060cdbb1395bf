-- The players of a season have the positions that are looked up in them.
use Rattle.std.proofs.Common.{◌≡◌, ◌<◌, ℕ, zero, suc, true, false, List, [], ◌∷◌, Some, length, get_or, arith, refl, sym, ap, nat_eq}
use Rattle.std.specs.Prelude.{AllPairs}
use Rattle.std.specs.Option.{option_map_or}
use Rattle.std.proofs.lemmas.Bool.Decides.{nat_tests}
use Rattle.fpl_base.specs.declared.kinds.Position.TheVariants.{Keeper}
use Rattle.rule_book.specs.declared.player.Player.{Player}
use Rattle.rule_book.specs.Batch.{HavePositions}
use Rattle.rule_book.specs.PlayerFigures.{position_in}
use Rattle.rule_book.specs.Players.{ArePlayers, player_of}

-- a player is the one of his id
own : (players : List Player) → AllPairs (λ p q. p.id < q.id) players → (i : ℕ) (d : Player) → i < length players → player_of players (get_or players i d).id ≡ Some (get_or players i d)
own [] rise i d l = absurd (omega arith)
own (p ∷ players) rise zero d l = let t : nat_eq p.id p.id ≡ true = grind (arith, nat_tests) in rw t refl
own (p ∷ players) rise (suc i) d l =
    let m : i < length players = omega (arith, l) in
    let before : p.id < (get_or players i d).id = rise 0 (suc i) d (omega arith) l in
    let t : nat_eq p.id (get_or players i d).id ≡ false = grind (arith, nat_tests) in
    rw t (own players (λ a b e f g. rise (suc a) (suc b) e (omega (arith, f)) (omega (arith, g))) i d m)

-- so each plays where it is looked up that he plays
pub rising_positions : (players : List Player) → AllPairs (λ p q. p.id < q.id) players → HavePositions (position_in players) players
rising_positions players rise i d l = sym (ap (λ o. option_map_or (λ (p : Player). p.position) o Keeper) (own players rise i d l))

pub have_positions : (players : List Player) → ArePlayers players → HavePositions (position_in players) players
have_positions players are = rising_positions players are.ascending
