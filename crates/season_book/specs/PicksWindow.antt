-- An entry's team of a gameweek: its chip, who came in for whom, its row, and how often the points of each player count.
use Rattle.std.specs.Prelude.{ℕ, ◌==◌, not, List, Option, Some, None, filter, codes, if◌then◌else◌}
use Rattle.std.specs.Option.{option_and_then}
use Rattle.serde_json.specs.Data.{Data, boolean, member, no_members, object}
use Rattle.json_members.specs.Members.{count, text_or_null}
use Rattle.rule_book.specs.declared.team.Pick.{Pick}
use Rattle.rule_book.specs.declared.team.Team.{Team}
use Rattle.rule_book.specs.declared.team_score.Armband.{Armband}
use Rattle.rule_book.specs.declared.team_score.TeamScore.{TeamScore}
use Rattle.rule_book.specs.Entries.{entry_in}
use Rattle.rule_book.specs.HistoryTeam.{is_begun}
use Rattle.season_book.specs.Book.{EntryFacts, Facts}
use Rattle.season_book.specs.EntryViews.{has_scored, player_in_slot, score_by, team_by}
use Rattle.season_book.specs.Windows.{listed, numbered}
use Rattle.season_book.specs.ChipNames.{chip_name}
use Rattle.season_book.specs.EntryRows.{EntryRow, does_count, entry_row_data, entry_row_of}

-- how often the points of a slot that counts count: by its factor where it wears the armband, else once
abbrev pub factor_at : Option Armband → ℕ → ℕ
factor_at None slot = 1
factor_at (Some armband) slot = if armband.slot == slot then armband.factor else 1

-- how often the points of a slot count
abbrev pub multiplier : Team → TeamScore → ℕ → ℕ
multiplier team score slot = if does_count team score.eleven.slots slot then factor_at score.armband slot else 0

-- a player by his slot, whether the manager named him captain or vice-captain, and how often his points count
abbrev pub pick_row : Team → TeamScore → ℕ × Pick → Data
pick_row team score row = object
    (member (codes "element") (count row.1.player)
    (member (codes "is_captain") (boolean (team.captain == row.0))
    (member (codes "is_vice_captain") (boolean (team.vice == row.0))
    (member (codes "multiplier") (count (multiplier team score row.0))
    (member (codes "position") (count row.0)
    no_members)))))

-- the starters for whom another slot stands, each with that slot
abbrev pub substitutions : List ℕ → List (ℕ × ℕ)
substitutions eleven = filter (λ row. not (row.0 == row.1)) (numbered eleven)

-- who came in for a starter, and who went out
abbrev pub substitution_row : Team → ℕ → ℕ → ℕ × ℕ → Data
substitution_row team e g row = object
    (member (codes "element_in") (count (player_in_slot team.picks row.1))
    (member (codes "element_out") (count (player_in_slot team.picks row.0))
    (member (codes "entry") (count e)
    (member (codes "event") (count g)
    no_members))))

-- what is shown of an entry's gameweek with this team, this score and this row
abbrev pub picks_data : ℕ → Team → TeamScore → EntryRow → Data
picks_data e team score row = object
    (member (codes "active_chip") (text_or_null (chip_name team.chip))
    (member (codes "automatic_subs") (listed (substitution_row team e row.event) (substitutions score.eleven.slots))
    (member (codes "entry_history") (entry_row_data row)
    (member (codes "picks") (listed (pick_row team score) (numbered team.picks))
    no_members))))

abbrev pub picks_of : Facts → List EntryFacts → ℕ × EntryFacts → ℕ → Data
picks_of facts entries row g =
    picks_data row.0 (team_by facts row.1.history g) (score_by facts row.1.history g) (entry_row_of facts entries row g)

-- none where the entry had not begun by then
abbrev pub picks_if_begun : Facts → List EntryFacts → ℕ × EntryFacts → ℕ → Option Data
picks_if_begun facts entries row g = if is_begun row.1.history g then Some (picks_of facts entries row g) else None

-- nor where the entry was not issued or is not registered, or the gameweek is not locked
abbrev pub picks_window : Facts → List EntryFacts → ℕ → ℕ → Option Data
picks_window facts entries e g =
    option_and_then (λ entry. if has_scored facts entry.history g then Some (picks_of facts entries (e, entry) g) else None) (entry_in entries e)
