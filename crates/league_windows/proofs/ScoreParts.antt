-- What a score gives of itself, or nothing where there is none.
use Rattle.std.proofs.Common.{◌≡◌, ◌≤◌, ℕ, pos, Bool, true, false, Option, Some, None, ap, if◌then◌else◌}
use Rattle.std.specs.Prelude.{◌↔◌}
use Rattle.std.specs.Option.{option_map_or}
use Rattle.rule_book.specs.declared.team_score.TeamScore.{TeamScore}
use Rattle.season_book.specs.LeagueViews.{no_side, side_of}

pub net_of : (b : Bool) (s : TeamScore) (o : Option TeamScore) → o ≡ (if b then Some s else None) → option_map_or (λ (x : TeamScore). x.net) o (pos 0) ≡ (if b then side_of s else no_side).net
net_of true s o is = ap (λ o. option_map_or (λ (x : TeamScore). x.net) o (pos 0)) is
net_of false s o is = ap (λ o. option_map_or (λ (x : TeamScore). x.net) o (pos 0)) is

pub gross_of : (b : Bool) (s : TeamScore) (o : Option TeamScore) → o ≡ (if b then Some s else None) → option_map_or (λ (x : TeamScore). x.gross) o (pos 0) ≡ (if b then s.gross else pos 0)
gross_of true s o is = ap (λ o. option_map_or (λ (x : TeamScore). x.gross) o (pos 0)) is
gross_of false s o is = ap (λ o. option_map_or (λ (x : TeamScore). x.gross) o (pos 0)) is
