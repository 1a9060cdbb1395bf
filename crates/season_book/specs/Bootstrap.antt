-- What the page of a season begins with: the positions, the players, the gameweeks, the clubs, and how many play.
use Rattle.std.specs.Prelude.{ℕ, List, codes, count_by}
use Rattle.serde_json.specs.Data.{Data, member, no_members, object}
use Rattle.json_members.specs.Members.{count}
use Rattle.rule_book.specs.HistoryRules.{is_started}
use Rattle.season_book.specs.Book.{EntryFacts, Facts}
use Rattle.season_book.specs.ElementTypes.{element_types_window}
use Rattle.season_book.specs.Elements.{elements_window}
use Rattle.season_book.specs.Events.{events_window}
use Rattle.season_book.specs.Teams.{teams_window}

-- how many entries are registered
abbrev pub registered : List EntryFacts → ℕ
registered entries = count_by (λ entry. is_started entry.history) entries

abbrev pub bootstrap_window : Facts → List EntryFacts → Data
bootstrap_window facts entries = object
    (member (codes "element_types") (element_types_window facts.players)
    (member (codes "elements") (elements_window facts entries)
    (member (codes "events") (events_window facts entries)
    (member (codes "teams") (teams_window facts.clubs)
    (member (codes "total_players") (count (registered entries))
    no_members)))))
