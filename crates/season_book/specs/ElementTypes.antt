-- What a window shows of the four positions.
use Rattle.std.specs.Prelude.{ℕ, Bool, List, [], ◌∷◌, codes, count_by}
use Rattle.serde_json.specs.Data.{Data, member, no_members, object, string}
use Rattle.json_members.specs.Members.{count}
use Rattle.fpl_base.specs.declared.kinds.Position.{Position}
use Rattle.fpl_base.specs.declared.kinds.Position.TheVariants.{Keeper, Defender, Midfielder, Forward}
use Rattle.rule_book.specs.declared.player.Player.{Player}
use Rattle.rule_book.specs.Positions.{is_defender, is_forward, is_keeper, is_midfielder}
use Rattle.rule_book.specs.Scoring.{by_position}
use Rattle.season_book.specs.Windows.{listed}

-- the number of a position, and what it is called: one of it, several of it, and in short
abbrev pub position_number : Position → ℕ
position_number position = by_position 1 2 3 4 position

abbrev pub singular_of : Position → List ℕ
singular_of position = by_position (codes "Goalkeeper") (codes "Defender") (codes "Midfielder") (codes "Forward") position

abbrev pub plural_of : Position → List ℕ
plural_of position = by_position (codes "Goalkeepers") (codes "Defenders") (codes "Midfielders") (codes "Forwards") position

abbrev pub short_of : Position → List ℕ
short_of position = by_position (codes "GKP") (codes "DEF") (codes "MID") (codes "FWD") position

-- how many of it play at most and at least, and how many are in a squad
abbrev pub most_in_play : Position → ℕ
most_in_play position = by_position 1 5 5 3 position

abbrev pub least_in_play : Position → ℕ
least_in_play position = by_position 1 3 2 1 position

abbrev pub in_squads : Position → ℕ
in_squads position = by_position 2 5 5 3 position

-- whether a position is this one
abbrev pub is_position : Position → Position → Bool
is_position position = by_position is_keeper is_defender is_midfielder is_forward position

-- how many players have it
abbrev pub players_at : List Player → Position → ℕ
players_at players position = count_by (λ player. is_position position player.position) players

-- a position that so many players have
abbrev pub element_type_data : ℕ → Position → Data
element_type_data players position = object
    (member (codes "element_count") (count players)
    (member (codes "id") (count (position_number position))
    (member (codes "plural_name") (string (plural_of position))
    (member (codes "plural_name_short") (string (short_of position))
    (member (codes "singular_name") (string (singular_of position))
    (member (codes "singular_name_short") (string (short_of position))
    (member (codes "squad_max_play") (count (most_in_play position))
    (member (codes "squad_min_play") (count (least_in_play position))
    (member (codes "squad_select") (count (in_squads position))
    no_members)))))))))

abbrev pub element_type_row : List Player → Position → Data
element_type_row players position = element_type_data (players_at players position) position

-- the four of them
abbrev pub element_types_window : List Player → Data
element_types_window players = listed (element_type_row players) (Keeper ∷ Defender ∷ Midfielder ∷ Forward ∷ [])
