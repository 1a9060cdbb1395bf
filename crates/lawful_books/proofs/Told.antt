-- The teams that a map tells of are those of the histories of a book.
use Rattle.std.proofs.Common.{◌≡◌, ◌≤◌, ◌+◌, ◌-◌, ℕ, Bool, true, false, cond, List, [], ◌∷◌, map, Option, Some, None, arith, refl, sym, ap, ◌∙◌}
use Rattle.std.specs.Option.{option_and_then, option_map, option_map_or}
use Rattle.std.specs.Prelude.{is_some}
use Rattle.std.proofs.lemmas.Bool.Decides.{nat_tests}
use Rattle.fpl_base.specs.Keeping.{Map}
use Rattle.fpl_base.specs.declared.kinds.Position.TheVariants.{Keeper}
use Rattle.rule_book.specs.declared.player.Player.{Player}
use Rattle.rule_book.specs.Entries.{entry_in}
use Rattle.rule_book.specs.History.{Event, chip_at, is_touched, kept}
use Rattle.rule_book.specs.HistoryRules.{IsHistory}
use Rattle.rule_book.specs.HistorySquad.{armbands_of, bought_at, earned, order_of, picks_of, spent}
use Rattle.rule_book.specs.HistoryTeam.{is_begun}
use Rattle.rule_book.specs.TeamOfHistory.{team_of}
use Rattle.rule_book.specs.PlayerFigures.{position_in}
use Rattle.rule_book.specs.Players.{player_of}
use Rattle.season_records.specs.ItemReading.{item_of}
use Rattle.season_records.specs.Keys.{key_of}
use Rattle.season_records.specs.declared.slot.Slot.TheVariants as slot
use Rattle.season_book.specs.Book.{Book, EntryFacts, Facts}
use Rattle.season_book.specs.Commands.{has_player}
use Rattle.season_ledger.proofs.Legality.{headed}
use Rattle.season_ledger.proofs.Lists.{map_map}
use Rattle.season_records.specs.Records.{no_position, pick_told, player_item, team_item, told_in}
use Rattle.season_records.specs.Records as records
use Rattle.stored_records.specs.EntryTold.{team_in, team_told}
use Rattle.stored_records.specs.Stored.{is_there, told}
use Rattle.store_validation.specs.TeamRules.{position_told}
use Rattle.store_validation.specs.TeamRules as rules
use Rattle.lawful_books.specs.TeamsTold.{RecordedTeam, Tells}

-- the players of events in their order, each with the price at which he was bought
abbrev pub recorded_picks : List Event → List (ℕ × ℕ)
recorded_picks es = map (λ p. (p, bought_at es p)) (order_of es)

-- the team of a history as it is recorded
abbrev pub recorded : List Event → ℕ → RecordedTeam
recorded h g = record {
  picks = recorded_picks (kept h g);
  captain = (armbands_of (kept h g)).0;
  vice = (armbands_of (kept h g)).1;
  bank = (1000 + earned (kept h g)) - spent (kept h g);
  chip = chip_at h g;
}

abbrev pub recorded_in : List Event → ℕ → Option RecordedTeam
recorded_in h g = cond (is_touched h g) (Some (recorded h g)) None

-- where something was done in a gameweek, a history has begun
pub touched_begun : (h : List Event) (g : ℕ) → IsHistory h → is_touched h g ≡ true → is_begun h g ≡ true
touched_begun [] g history touched = cc
touched_begun (e ∷ h) g history touched = let l : e.gw ≤ g = (headed (e ∷ h) history).least g touched in grind (arith, nat_tests)

is_there_by : {X Y : Type 0} (f : X → Option Y) (o : Option X) → is_some (option_and_then f o) ≡ true → is_some o ≡ true
is_there_by f None e = e
is_there_by f (Some x) e = refl

module _ (m : Map) (book : Book) (facts : Facts) (tells : Tells m book) (season : book.facts ≡ Some facts) where
  player_told : (p : ℕ) → told m (slot.Player p) ≡ option_map (player_item p) (player_of facts.players p)
  player_told p = tells (slot.Player p) ∙ ap (option_and_then (λ (f : Facts). told_in f (slot.Player p))) season

  -- a player of the season is there
  pub player_there : (p : ℕ) → has_player facts p ≡ true → is_there m (slot.Player p) ≡ true
  player_there p has = is_there_by (item_of (key_of (slot.Player p))) (m (key_of (slot.Player p))) (ap is_some (player_told p) ∙ is_mapped (player_of facts.players p) has)
    where
      is_mapped : (o : Option Player) → is_some o ≡ true → is_some (option_map (player_item p) o) ≡ true
      is_mapped None e = e
      is_mapped (Some x) e = refl

  -- and at his position
  pub position_as : (p : ℕ) → position_told m p ≡ position_in facts.players p
  position_as p = ap rules.position_in (player_told p) ∙ by (player_of facts.players p)
    where
      by : (o : Option Player) → rules.position_in (option_map (player_item p) o) ≡ option_map_or (λ (x : Player). x.position) o Keeper
      by None = refl
      by (Some x) = refl

  module _ (e : ℕ) (entry : EntryFacts) (there : entry_in book.entries e ≡ Some entry) where
    abbrev own : List Event
    own = entry.history

    -- a team is told where something was done
    pub team_as : (g : ℕ) → team_told m e g ≡ recorded_in own g
    team_as g =
        ap team_in (tells (slot.Team e g) ∙ ap (option_and_then (λ (x : EntryFacts). records.team_told e g x.history)) there)
        ∙ by (is_touched own g)
      where
        picks_as : map pick_told (picks_of no_position (kept own g)) ≡ recorded_picks (kept own g)
        picks_as = map_map pick_told (λ p. record { player = p; position = no_position p; bought = bought_at (kept own g) p }) (order_of (kept own g))

        by : (b : Bool) → team_in (cond b (Some (team_item e g (team_of no_position own g))) None) ≡ cond b (Some (recorded own g)) None
        by false = refl
        by true = ap {B = Option RecordedTeam} (λ picks. Some (record {
          picks = picks;
          captain = (armbands_of (kept own g)).0;
          vice = (armbands_of (kept own g)).1;
          bank = (1000 + earned (kept own g)) - spent (kept own g);
          chip = chip_at own g;
        })) picks_as

    -- which it then is
    pub team_is : (g : ℕ) (t : RecordedTeam) → team_told m e g ≡ Some t → (is_touched own g ≡ true) × (t ≡ recorded own g)
    team_is g t is = by (is_touched own g) refl (sym (team_as g) ∙ is)
      where
        by : (b : Bool) → is_touched own g ≡ b → cond b (Some (recorded own g)) None ≡ Some t → (is_touched own g ≡ true) × (t ≡ recorded own g)
        by true e is = (e, cc)
        by false e is = cc
