-- Players that come and change keep the facts lawful.
use Rattle.std.proofs.Common.{◌≡◌, ◌≤◌, ◌<◌, ◌==◌, ℕ, Bool, true, false, List, Some, None, length, nat_le, arith, refl, ◌∙◌, if◌then◌else◌}
use Rattle.std.specs.Prelude.{is_some}
use Rattle.std.proofs.lemmas.Bool.Decides.{nat_tests}
use Rattle.std.proofs.lemmas.List.{length-map}
use Rattle.fpl_base.specs.declared.rule.Rule.TheVariants.{PlayerThere, PlayersFull}
use Rattle.rule_book.specs.declared.player.Player.{Player}
use Rattle.rule_book.specs.Players.{most_players, player_of, player_refusal, price_refusal, with_change, with_player}
use Rattle.season_book.specs.Book.{Facts}
use Rattle.season_book.specs.Commands.{has_club, has_player}
use Rattle.lawful_books.specs.Facts.{AreLawful, IsLawfulPlayer}
use Rattle.lawful_books.proofs.Crowds.{length_put}
use Rattle.lawful_books.proofs.Lines.{neither_refused}
use Rattle.lawful_books.proofs.Found.{mapped_found, put_found, still_found, still_mapped}

module _ (facts : Facts) (lawful : AreLawful facts) where
  -- other players, each of whom is lawful, with all who were there
  with_players : (players : List Player) → length players ≤ most_players
      → ((p : ℕ) (player : Player) → player_of players p ≡ Some player → IsLawfulPlayer facts player)
      → ((p : ℕ) → has_player facts p ≡ true → is_some (player_of players p) ≡ true)
      → AreLawful (record facts { players = players })
  with_players players few each there = record {
    terms = lawful.terms;
    few_clubs = lawful.few_clubs;
    few_players = few;
    few_fixtures = lawful.few_fixtures;
    few_standing = lawful.few_standing;
    few_lines = lawful.few_lines;
    players = λ p player at. (let new = each p player at in record { club = new.club; price = new.price });
    fixtures = λ f x at. (
        let old = lawful.fixtures f x at in
        record { home = old.home; away = old.away; two = old.two; place = old.place; kickoff = old.kickoff; finished = old.finished });
    lines = λ f p line at. (
        let old = lawful.lines f p line at in
        record { fixture = old.fixture; player = there p old.player; locked = old.locked; range = old.range });
  }

  -- what lets a new player in
  let_in : (new : Player) → player_refusal facts.players new ≡ None → (length facts.players < most_players) × (price_refusal new.price ≡ None)
  let_in new none =
      let first = neither_refused (is_some (player_of facts.players new.id)) (PlayerThere new.id) _ none in
      let second = neither_refused (nat_le most_players (length facts.players)) PlayersFull (price_refusal new.price) first.1 in
      (grind (arith, nat_tests, second.0), second.1)

  pub player_added : (new : Player) → has_club facts new.club ≡ true → player_refusal facts.players new ≡ None
      → AreLawful (record facts { players = with_player facts.players new })
  player_added new club none =
      let fits = let_in new none in
      with_players (with_player facts.players new) (omega (arith, length_put (λ (p : Player). p.id) facts.players new, fits.0))
      (λ p player at. put_found (λ (p : Player). p.id) (IsLawfulPlayer facts) facts.players new p player (λ same. record { club = club; price = fits.1 }) (lawful.players p player) at)
      (λ p there. still_found (λ (p : Player). p.id) facts.players new p there)

  pub player_changed : (change : Player → Player) (id : ℕ) → ((p : Player) → (change p).id ≡ p.id) → ((p : Player) → IsLawfulPlayer facts p → IsLawfulPlayer facts (change p))
      → AreLawful (record facts { players = with_change change facts.players id })
  player_changed change id keeps still =
      let f : Player → Player = λ p. if p.id == id then change p else p in
      with_players (with_change change facts.players id) (omega (arith, length-map facts.players f, lawful.few_players))
      (λ p player at. mapped_found (λ (p : Player). p.id) (IsLawfulPlayer facts) f (λ p. same p (p.id == id)) facts.players p player (λ x found. as_changed x (x.id == id) (lawful.players p x found)) at)
      (λ p there. still_mapped (λ (p : Player). p.id) f (λ p. same p (p.id == id)) facts.players p ∙ there)
    where
      same : (p : Player) (b : Bool) → (if b then change p else p).id ≡ p.id
      same p true = keeps p
      same p false = refl

      as_changed : (p : Player) (b : Bool) → IsLawfulPlayer facts p → IsLawfulPlayer facts (if b then change p else p)
      as_changed p true old = still p old
      as_changed p false old = old
