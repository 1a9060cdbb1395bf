-- What a window shows of the transfers of an entry.
use Rattle.std.specs.Prelude.{ℕ, ◌+◌, List, Option, codes, map, reverse}
use Rattle.std.specs.List.{flat_map}
use Rattle.std.specs.Option.{option_and_then, option_map}
use Rattle.serde_json.specs.Data.{Data, member, no_members, object}
use Rattle.json_members.specs.Members.{count}
use Rattle.rule_book.specs.declared.transfers.Sale.{Sale}
use Rattle.rule_book.specs.EntryRecords.{sold_in}
use Rattle.rule_book.specs.Entries.{entry_in}
use Rattle.rule_book.specs.History.{Event}
use Rattle.rule_book.specs.Totals.{gameweeks}
use Rattle.rule_book.specs.UpTo.{start_of}
use Rattle.season_book.specs.Book.{EntryFacts, Facts}
use Rattle.season_book.specs.Windows.{listed}

-- a transfer of an entry in a gameweek: who comes and who goes, each with his price
abbrev pub transfer_row : ℕ → ℕ × Sale → Data
transfer_row e row = object
    (member (codes "element_in") (count row.1.into)
    (member (codes "element_in_cost") (count row.1.bought)
    (member (codes "element_out") (count row.1.out)
    (member (codes "element_out_cost") (count row.1.sold)
    (member (codes "entry") (count e)
    (member (codes "event") (count row.0)
    no_members))))))

-- the transfers of some gameweeks, by those of each in order: the latest first, within a gameweek too
abbrev pub latest_of : (ℕ → List Sale) → List ℕ → List (ℕ × Sale)
latest_of sold gws = reverse (flat_map (λ g. map (λ sale. (g, sale)) (sold g)) gws)

-- those of an entry that began in a gameweek: of the locked gameweeks behind that one
abbrev pub transfers_data : Facts → ℕ → List Event → ℕ → Data
transfers_data facts e h first = listed (transfer_row e) (latest_of (sold_in h) (gameweeks (first + 1) facts.calendar.locked))

-- none where the entry is not registered
abbrev pub transfers_window : Facts → List EntryFacts → ℕ → Option Data
transfers_window facts entries e =
    option_and_then (λ entry. option_map (transfers_data facts e entry.history) (start_of entry.history)) (entry_in entries e)
