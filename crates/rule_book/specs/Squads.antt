-- Squads: fifteen players by slot, and their clubs.
use Rattle.std.specs.Prelude.{◌≡◌, ◌≢◌, ◌≤◌, ℕ, Bool, true, ◌&&◌, ◌==◌, List, [], ◌∷◌, Option, map, filter, min, count_by, nat_lt, AllPairs}
use Rattle.std.specs.List.{reduce}
use Rattle.std.specs.Option.{option_map}
use Rattle.fpl_base.specs.declared.kinds.Position.{Position}
use Rattle.fpl_base.specs.declared.rule.Rule.{Rule}
use Rattle.fpl_base.specs.declared.rule.Rule.TheVariants as rule
use Rattle.rule_book.specs.declared.team.Pick.{Pick}
use Rattle.rule_book.specs.Positions.{keepers, defenders, midfielders, forwards}
use Rattle.rule_book.specs.Refusals.{first_broken, unless}
use Rattle.rule_book.specs.Repeats.{first_repeat}

-- the players of picks, and their positions
abbrev pub players_of : List Pick → List ℕ
players_of picks = map (λ pick. pick.player) picks

abbrev pub positions_of : List Pick → List Position
positions_of picks = map (λ pick. pick.position) picks

-- two goalkeepers, five defenders, five midfielders and three forwards
abbrev pub has_squad_shape : List Position → Bool
has_squad_shape positions =
    keepers positions == 2 && defenders positions == 5 && midfielders positions == 5 && forwards positions == 3

-- how many players come from a club
abbrev pub count_of_club : List ℕ → ℕ → ℕ
count_of_club clubs club = count_by (λ other. other == club) clubs

-- more than three players come from a club
abbrev pub is_crowded : List ℕ → ℕ → Bool
is_crowded clubs club = nat_lt 3 (count_of_club clubs club)

-- the least club from which more than three players come
abbrev pub least_crowded : List ℕ → Option ℕ
least_crowded clubs = reduce min (filter (is_crowded clubs) clubs)

-- what refuses a squad: a player who stands twice, then its shape, then a club
abbrev pub squad_refusal : List Pick → List ℕ → Option Rule
squad_refusal picks clubs =
    first_broken (option_map rule.Twice (first_repeat (players_of picks)) ∷ unless (has_squad_shape (positions_of picks)) rule.SquadShape ∷ option_map rule.ClubLimit (least_crowded clubs) ∷ [])

-- a legal squad: nobody stands twice, its shape is right, and at most three come from one club
pub record IsSquad (picks : List Pick) (clubs : List ℕ) : Type 0 where
  pub distinct : AllPairs (λ one other. one ≢ other) (players_of picks)
  pub shape : has_squad_shape (positions_of picks) ≡ true
  pub spread : (club : ℕ) → count_of_club clubs club ≤ 3
