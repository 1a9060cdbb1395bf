use Rattle.std.proofs.Common.{◌≡◌, ◌==◌, List, ℕ, false, subst}
use Rattle.std.specs.List.{list_any}
use Rattle.rule_book.specs.MatchFacts.{lines_of}
use Rattle.record_changes.proofs.Found.{none_at, none_instead}
use Rattle.record_changes.proofs.seeking.lined_player.Goals as goal

pub returns-in-None : goal.returns-in-None
returns-in-None c =
    none_instead c.player_among.result (λ id. id ≡ c.args.player)
    (λ none. none_at (lines_of c.args.matches.now c.args.fixture) c.args.player (subst (λ (ids : List ℕ). list_any (λ id. id == c.args.player) ids ≡ false) c.players_of.ensures.players none))
    c.player_among.ensures
