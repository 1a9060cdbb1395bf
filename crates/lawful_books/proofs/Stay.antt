-- The empty history is lawful; moments and the operator's commands leave lawful histories so: players stay at their
-- positions, and so does the end of the first half.
use Rattle.std.proofs.Common.{◌≡◌, ℕ, Bool, true, false, cond, ◌==◌, nat_le, List, [], ◌∷◌, Option, Some, None, length, map, arith, refl, sym, ap, subst, ◌∙◌, inl, inr, if◌then◌else◌}
use Rattle.std.specs.Prelude.{is_some}
use Rattle.std.specs.List.{AllByRecursion as Each}
use Rattle.std.specs.Option.{option_map_or}
use Rattle.std.proofs.lemmas.Bool.{cases_eq, false≢true, true≢false}
use Rattle.std.proofs.lemmas.Bool.Decides.{nat_tests}
use Rattle.fpl_base.specs.declared.kinds.Position.TheVariants.{Keeper}
use Rattle.fpl_base.specs.declared.rule.Rule.TheVariants as rule
use Rattle.rule_book.specs.declared.player.Player.{Player}
use Rattle.rule_book.specs.History.{Deed, Event, chip_at}
use Rattle.rule_book.specs.History.Deed.{First, Swap, Lineup, Play, Cancel}
use Rattle.rule_book.specs.HistoryTransfers.{used_before}
use Rattle.rule_book.specs.Lineups.{lineup_refusal}
use Rattle.rule_book.specs.PlayerFigures.{position_in}
use Rattle.rule_book.specs.Players.{most_players, player_of, player_refusal, price_refusal, with_change, with_player}
use Rattle.rule_book.specs.Squads.{has_squad_shape}
use Rattle.season_book.specs.Book.{Facts}
use Rattle.season_book.specs.Commands.{changed_by, has_player, refusal_of}
use Rattle.season_book.specs.declared.command.Command.{Command}
use Rattle.season_book.specs.declared.command.Command.TheVariants as command
use Rattle.season_records.proofs.Finds.{found_beside}
use Rattle.lawful_books.specs.Histories.{AreLinedUp, AreThere, IsLawfulDeed, IsLawfulHistory, positions}
use Rattle.lawful_books.specs.EntriesKeeping.{ChangesKeepHistories, EmptyIsLawful, MomentsKeepHistories}

pub empty_is_lawful : EmptyIsLawful
empty_is_lawful facts = record {
  deeds = tt;
  gameweeks = tt;
  limits = λ g. omega arith;
  late = λ g first. absurd (false≢true first);
  once = λ g other. absurd (true≢false other);
}

-- who is there stays there, at his position, and the first half ends as it did
pub record IsSteady (facts behind : Facts) : Type 0 where
  pub there : (p : ℕ) → has_player facts p ≡ true → has_player behind p ≡ true
  pub position : (p : ℕ) → has_player facts p ≡ true → position_in behind.players p ≡ position_in facts.players p
  pub split : facts.calendar.split ≡ behind.calendar.split

module _ (facts behind : Facts) (steady : IsSteady facts behind) where
  all_there : (players : List ℕ) → AreThere facts players → AreThere behind players
  all_there [] all = tt
  all_there (p ∷ players) all = (steady.there p all.0, all_there players all.1)

  same_positions : (players : List ℕ) → AreThere facts players → positions behind players ≡ positions facts players
  same_positions [] all = refl
  same_positions (p ∷ players) all = λ i. steady.position p all.0 i ∷ same_positions players all.1 i

  lined_up : (players : List ℕ) (captain vice : ℕ) → AreLinedUp facts players captain vice → AreLinedUp behind players captain vice
  lined_up players captain vice up =
      let same : positions behind players ≡ positions facts players = same_positions players up.there in
      record {
        there = all_there players up.there;
        shape = ap has_squad_shape same ∙ up.shape;
        lineup = ap (λ ps. lineup_refusal ps captain vice) same ∙ up.lineup;
      }

  deed_stays : (d : Deed) → IsLawfulDeed facts d → IsLawfulDeed behind d
  deed_stays (First squad captain vice) lawful = record {
    lined_up = lined_up (map (λ k. k.player) squad) captain vice lawful.lined_up;
    priced = lawful.priced;
    least = lawful.least;
    most = lawful.most;
  }
  deed_stays (Swap sale) lawful = record {
    out = steady.there sale.out lawful.out;
    into = steady.there sale.into lawful.into;
    position = steady.position sale.into lawful.into ∙ lawful.position ∙ sym (steady.position sale.out lawful.out);
    priced = lawful.priced;
  }
  deed_stays (Lineup players captain vice) lawful = lined_up players captain vice lawful
  deed_stays (Play chip) lawful = lawful
  deed_stays Cancel lawful = lawful

  deeds_stay : (h : List Event) → Each (λ (e : Event). IsLawfulDeed facts e.deed) h → Each (λ (e : Event). IsLawfulDeed behind e.deed) h
  deeds_stay [] all = tt
  deeds_stay (e ∷ h) all = (deed_stays e.deed all.0, deeds_stay h all.1)

  pub history_stays : (h : List Event) → IsLawfulHistory facts h → IsLawfulHistory behind h
  history_stays h lawful = record {
    deeds = deeds_stay h lawful.deeds;
    gameweeks = lawful.gameweeks;
    limits = lawful.limits;
    late = lawful.late;
    once = λ g other. subst (λ split. used_before split (chip_at h) (chip_at h g) g ≡ None) steady.split (lawful.once g other);
  }

pub moments_keep_histories : MomentsKeepHistories
moments_keep_histories facts now h lawful =
    history_stays facts _ (record { there = λ p there. there; position = λ p there. refl; split = refl }) h lawful

-- What a command changes of the players.

-- one changed, but for his id and position
module _ (change : Player → Player) (id : (p : Player) → (change p).id ≡ p.id) (place : (p : Player) → (change p).position ≡ p.position) where
  abbrev chosen : ℕ → Player → Player
  chosen k p = if p.id == k then change p else p

  chosen_id : (b : Bool) (p : Player) → (cond b (change p) p).id ≡ p.id
  chosen_id true p = id p
  chosen_id false p = refl

  chosen_place : (b : Bool) (p : Player) → (cond b (change p) p).position ≡ p.position
  chosen_place true p = place p
  chosen_place false p = refl

  changed_there : (players : List Player) (k q : ℕ) → is_some (player_of (with_change change players k) q) ≡ is_some (player_of players q)
  changed_there [] k q = refl
  changed_there (p ∷ players) k q =
      rw (chosen_id (p.id == k) p) (elim (p.id == q) as (λ b. is_some (cond b (Some (chosen k p)) (player_of (with_change change players k) q)) ≡ is_some (cond b (Some p) (player_of players q))) [
        | true ↦ refl
        | false ↦ changed_there players k q
      ])

  changed_place : (players : List Player) (k q : ℕ) → position_in (with_change change players k) q ≡ position_in players q
  changed_place [] k q = refl
  changed_place (p ∷ players) k q =
      rw (chosen_id (p.id == k) p) (elim (p.id == q) as (λ b. option_map_or (λ (x : Player). x.position) (cond b (Some (chosen k p)) (player_of (with_change change players k) q)) Keeper
      ≡ option_map_or (λ (x : Player). x.position) (cond b (Some p) (player_of players q)) Keeper) [
        | true ↦ chosen_place (p.id == k) p
        | false ↦ changed_place players k q
      ])

  changed_steady : (facts : Facts) (k : ℕ) → IsSteady facts (record facts { players = with_change change facts.players k })
  changed_steady facts k = record {
    there = λ p there. changed_there facts.players k p ∙ there;
    position = λ p there. changed_place facts.players k p;
    split = refl;
  }

-- a new one
new_there : (players : List Player) (new : Player) → player_refusal players new ≡ None → is_some (player_of players new.id) ≡ false
new_there players new e = by_player (player_of players new.id) e
  where
    by_player : (o : Option Player) → (if is_some o then Some (rule.PlayerThere new.id) else (if nat_le most_players (length players) then Some rule.PlayersFull else price_refusal new.price)) ≡ None → is_some o ≡ false
    by_player None e = refl
    by_player (Some p) e = cc

new_steady : (facts : Facts) (new : Player) → player_refusal facts.players new ≡ None → IsSteady facts (record facts { players = with_player facts.players new })
new_steady facts new granted = record {
  there = λ p there. ap is_some (same p there) ∙ there;
  position = λ p there. ap (λ o. option_map_or (λ (x : Player). x.position) o Keeper) (same p there);
  split = refl;
}
  where
    same : (p : ℕ) → has_player facts p ≡ true → player_of (with_player facts.players new) p ≡ player_of facts.players p
    same p there = elim (cases_eq new.id p) [
      | inl here ↦ absurd (false≢true (sym (new_there facts.players new granted) ∙ ap (λ q. is_some (player_of facts.players q)) here ∙ there))
      | inr other ↦ (let apart : (new.id == p) ≡ false = grind (arith, nat_tests, other) in found_beside (λ x. x.id) facts.players new p apart)
    ]

steady_under : (facts : Facts) (now : ℕ) (command : Command) → refusal_of facts now command ≡ None → IsSteady facts (changed_by facts command)
steady_under facts now (command.Player id name position club price) granted = new_steady facts _ granted
steady_under facts now (command.Price p price) granted = changed_steady (λ q. record q { price = price }) (λ q. refl) (λ q. refl) facts p
steady_under facts now (command.Club p club) granted = changed_steady (λ q. record q { club = club }) (λ q. refl) (λ q. refl) facts p
steady_under facts now (command.Gone p gone) granted = changed_steady (λ q. record q { gone = gone }) (λ q. refl) (λ q. refl) facts p
steady_under facts now command granted = record { there = λ p there. there; position = λ p there. refl; split = refl }

pub changes_keep_histories : ChangesKeepHistories
changes_keep_histories facts now command h granted lawful =
    history_stays facts (changed_by facts command) (steady_under facts now command granted.unbroken) h lawful
