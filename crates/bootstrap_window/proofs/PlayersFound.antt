-- Each of the players of a season is found by his id.
use Rattle.std.proofs.Common.{◌≡◌, ◌==◌, ℕ, zero, suc, Bool, true, false, cond, List, [], ◌∷◌, Some, ap, refl, arith, sym, ◌∙◌}
use Rattle.std.specs.Prelude.{is_some}
use Rattle.std.specs.List.{slice_get}
use Rattle.std.proofs.lemmas.Bool.Decides.{nat_tests}
use Rattle.std.proofs.lemmas.Option.{same_Some}
use Rattle.rule_book.specs.declared.player.Player.{Player}
use Rattle.rule_book.specs.Players.{player_of}

same_number : (n : ℕ) → (n == n) ≡ true
same_number n = grind (arith, nat_tests)

skipped : (b : Bool) (q : Player) (players : List Player) (id : ℕ) → is_some (player_of players id) ≡ true → is_some (cond b (Some q) (player_of players id)) ≡ true
skipped true q players id there = refl
skipped false q players id there = there

-- one who stands at a place is there
pub there_at : (players : List Player) (i : ℕ) (p : Player) → slice_get players i ≡ Some p → is_some (player_of players p.id) ≡ true
there_at [] zero p at = absurd (cc at)
there_at [] (suc i) p at = absurd (cc at)
there_at (q ∷ players) zero p at =
    ap (λ (r : Player). is_some (cond (q.id == r.id) (Some q) (player_of players r.id))) (sym (same_Some q p at)) ∙ ap (λ b. is_some (cond b (Some q) (player_of players q.id))) (same_number q.id)
there_at (q ∷ players) (suc i) p at = skipped (q.id == p.id) q players p.id (there_at players i p at)
