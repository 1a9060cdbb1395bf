-- The first rule that a new player breaks.
use Rattle.std.proofs.Common.{◌≡◌, ℕ, ◌<◌, ◌≤◌, List, length, true, false, Some, None, refl, sym, ap, ◌∙◌, arith}
use Rattle.std.specs.Prelude.{nat_le}
use Rattle.std.proofs.lemmas.Bool.Decides.{nat_tests}
use Rattle.fpl_base.specs.declared.rule.Rule.TheVariants as rule
use Rattle.rule_book.specs.declared.player.Player.{Player}
use Rattle.rule_book.specs.Players.{player_of, player_refusal, price_refusal, most_players}

pub refused_there : (players : List Player) (new old : Player) → Some old ≡ player_of players new.id → player_refusal players new ≡ Some (rule.PlayerThere new.id)
refused_there players new old e = rw (← e) refl

pub refused_full : (players : List Player) (new : Player) → None ≡ player_of players new.id → most_players ≤ length players → player_refusal players new ≡ Some rule.PlayersFull
refused_full players new e full = let t : nat_le most_players (length players) ≡ true = grind (arith, nat_tests) in rw (← e, t) refl

pub refused_by_price : (players : List Player) (new : Player) → None ≡ player_of players new.id → length players < most_players → player_refusal players new ≡ price_refusal new.price
refused_by_price players new e room = let f : nat_le most_players (length players) ≡ false = grind (arith, nat_tests) in rw (← e, f) refl

-- so of a player who has this id and price

module _ (players : List Player) (id price : ℕ) (new : Player) (same_id : new.id ≡ id) (same_price : new.price ≡ price) where
  pub there : (old : Player) → Some old ≡ player_of players id → player_refusal players new ≡ Some (rule.PlayerThere id)
  there old e = refused_there players new old (e ∙ ap (player_of players) (sym same_id)) ∙ ap (λ n. Some (rule.PlayerThere n)) same_id

  pub full : None ≡ player_of players id → most_players ≤ length players → player_refusal players new ≡ Some rule.PlayersFull
  full e many = refused_full players new (e ∙ ap (player_of players) (sym same_id)) many

  pub by_price : None ≡ player_of players id → length players < most_players → player_refusal players new ≡ price_refusal price
  by_price e room = refused_by_price players new (e ∙ ap (player_of players) (sym same_id)) room ∙ ap price_refusal same_price
