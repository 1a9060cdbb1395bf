-- A first squad, bought at present prices.
use Rattle.std.proofs.Common.{◌≡◌, ◌≤◌, ◌∷◌, [], ◌++◌, ℕ, List, Option, Some, None, map, refl, sym, ap, subst, nat_eq}
use Rattle.std.specs.List.{AllByRecursion as Each}
use Rattle.std.specs.Option.{option_map, option_to_list}
use Rattle.fpl_base.specs.declared.kinds.Position.{Position}
use Rattle.rule_book.specs.declared.player.Player.{Player}
use Rattle.rule_book.specs.declared.team.Pick.{Pick}
use Rattle.rule_book.specs.declared.team.Team.{Team}
use Rattle.rule_book.specs.Batch.{HavePositions}
use Rattle.rule_book.specs.HistoryRules.{times}
use Rattle.rule_book.specs.HistoryTeam.{holdings}
use Rattle.rule_book.specs.Players.{ArePlayers, IsPrice, player_of}
use Rattle.season_ledger.specs.Rows.{IsFitTeam}
use Rattle.season_ledger.specs.Batches.{IsFirstTeam}
use Rattle.season_ledger.specs.Stands.{IsPlaced}
use Rattle.rule_book.specs.EntryCalls.{pick_from, picks_from}
use Rattle.manager_book.specs.Calls.{IsFirstOf}
use Rattle.manager_book.proofs.Entries.{all_each}
use Rattle.manager_book.proofs.Lined.{find_has, apart_times, apart_players, each_placed}

players_same : (ks : List Pick) → map (λ k. k.player) (holdings ks) ≡ map (λ (k : Pick). k.player) ks
players_same [] = refl
players_same (k ∷ ks) = ap (λ l. k.player ∷ l) (players_same ks)

-- what each player has, each pick from them has
from_has : (P : Player → Type 0) (Q : Pick → Type 0) (turns : (p : Player) → P p → Q (pick_from p)) (players : List Player) (squad : List ℕ) → Each P players → Each Q (picks_from players squad)
from_has P Q turns players [] h = tt
from_has P Q turns players (id ∷ squad) h = step (player_of players id) refl (from_has P Q turns players squad h)
  where
    step : (o : Option Player) → player_of players id ≡ o → Each Q (picks_from players squad) → Each Q (option_to_list (option_map pick_from o) ++ picks_from players squad)
    step None e i = i
    step (Some p) e i = (turns p (find_has P (λ x. nat_eq x.id id) players p h e), i)

pub first_is_team : (players : List Player) (squad : List ℕ) (c v : ℕ) (u : Team) → IsFirstOf players squad c v u → IsFirstTeam u
first_is_team players squad c v u f = record {
  apart = λ p. (subst (λ l. times p l ≤ 1) (sym (players_same u.picks)) (apart_times (map (λ (k : Pick). k.player) u.picks) f.distinct p));
  bank = f.bank;
  chip = f.chip;
}

pub fit_first : (players : List Player) (squad : List ℕ) (c v : ℕ) (u : Team) → ArePlayers players → IsFirstOf players squad c v u → IsFitTeam u
fit_first players squad c v u a f = record {
  different = apart_players u.picks f.distinct;
  priced = subst (Each (λ k. k.bought ≤ 200)) (sym f.picks) (from_has (λ p. IsPrice p.price) (λ k. k.bought ≤ 200) (λ p h. h.1) players squad (all_each (λ p. IsPrice p.price) players a.priced));
}

pub placed_first : (position : ℕ → Position) (players : List Player) (squad : List ℕ) (c v : ℕ) (u : Team) → HavePositions position players → IsFirstOf players squad c v u → IsPlaced position u.picks
placed_first position players squad c v u a f = subst (IsPlaced position) (sym f.picks)
    (each_placed position (picks_from players squad) (from_has (λ p. p.position ≡ position p.id) (λ k. k.position ≡ position k.player) (λ p h. h) players squad (all_each (λ p. p.position ≡ position p.id) players a)))
