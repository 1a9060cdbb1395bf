-- What is shown of a locked gameweek of a player who is there.
use Rattle.std.proofs.Common.{◌≡◌, ◌&&◌, ℕ, List, Bool, true, Some, None, is_some, nat_le, sym, ap, ◌∙◌, if◌then◌else◌}
use Rattle.std.proofs.lemmas.Option.{cond_some}
use Rattle.rule_book.specs.declared.cup.Bracket.{Bracket}
use Rattle.rule_book.specs.declared.player.Player.{Player}
use Rattle.rule_book.specs.declared.team_score.Figures.{Figures}
use Rattle.rule_book.specs.Calendar.{is_locked}
use Rattle.rule_book.specs.Leagues.{LeagueFacts}
use Rattle.rule_book.specs.PlayerFigures.{figures_in}
use Rattle.rule_book.specs.Players.{player_of}
use Rattle.manager_book.specs.Managers.{Managers}
use Rattle.season_nodes.specs.Season.{is_live}
use Rattle.season_nodes.specs.declared.nodes.Node.TheVariants as node
use Rattle.season_book.specs.Book.{Facts}
use Rattle.season_book.specs.declared.request.View.TheVariants as view
use Rattle.season_book.specs.declared.shown.Shown.TheVariants as shown
use Rattle.season_book.specs.Views.{has_played_gameweek, shown_of}
use Rattle.season_views.specs.Cells.{books_seen}
use Rattle.season_views.proofs.Found.{player_has_id}

chosen : {X : Type 0} (b : Bool) (x y : X) → b ≡ true → x ≡ (if b then x else y)
chosen b x y is = ap (λ c. if c then x else y) (sym is)

-- what a player did in a gameweek
abbrev gameweek_figures : Facts → ℕ → ℕ → Figures
gameweek_figures facts p g = figures_in facts.profile facts.calendar facts.players facts.matches p g

-- a player who is found, and a locked gameweek, have a live node
pub gameweek_is_live : (facts : Facts) (managers : Managers) (leagues : List LeagueFacts) (cups : List Bracket) (p g locked : ℕ) (player : Player)
    → Some player ≡ player_of facts.players p
    → Some locked ≡ (if nat_le 1 g && is_locked facts.calendar g then Some g else None)
    → is_live (books_seen facts managers leagues cups) (node.PlayerGw player.id locked) ≡ true
gameweek_is_live facts managers leagues cups p g locked player there is_locked_there =
    let is = cond_some (nat_le 1 g && is_locked facts.calendar g) g locked (sym is_locked_there) in
    ap (λ n. is_some (player_of facts.players n) && (nat_le 1 locked && nat_le locked facts.calendar.locked)) (player_has_id facts.players p player (sym there))
    ∙ ap (λ o. is_some o && (nat_le 1 locked && nat_le locked facts.calendar.locked)) (sym there)
    ∙ ap (λ n. nat_le 1 n && nat_le n facts.calendar.locked) (sym is.1)
    ∙ is.0

pub gameweek_is_shown : (facts : Facts) (p g locked : ℕ) (player : Player) (figures : Figures)
    → Some player ≡ player_of facts.players p
    → Some locked ≡ (if nat_le 1 g && is_locked facts.calendar g then Some g else None)
    → figures ≡ gameweek_figures facts player.id locked
    → Some (shown.PlayerGameweek figures) ≡ shown_of facts (view.PlayerGameweek p g)
gameweek_is_shown facts p g locked player figures there is_locked_there are =
    let is = cond_some (nat_le 1 g && is_locked facts.calendar g) g locked (sym is_locked_there) in
    let all : has_played_gameweek facts p g ≡ true = ap (λ o. is_some o && (nat_le 1 g && is_locked facts.calendar g)) (sym there) ∙ is.0 in
    ap (λ f. Some (shown.PlayerGameweek f))
    (are ∙ ap (λ n. gameweek_figures facts n locked) (player_has_id facts.players p player (sym there)) ∙ ap (gameweek_figures facts p) (sym is.1))
    ∙ chosen (has_played_gameweek facts p g) (Some (shown.PlayerGameweek (gameweek_figures facts p g))) None all
