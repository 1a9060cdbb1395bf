-- An entry's row of a gameweek: its bank, its transfers, what it scored, and its rank among all.
use Rattle.std.specs.Prelude.{ℕ, ℤ, ◌==◌, Bool, not, List, filter, codes, if◌then◌else◌}
use Rattle.std.specs.List.{list_any}
use Rattle.serde_json.specs.Data.{Data, member, no_members, object}
use Rattle.json_members.specs.Members.{count, integer}
use Rattle.rule_book.specs.declared.team.Team.{Team}
use Rattle.rule_book.specs.declared.team_score.Figures.{Figures}
use Rattle.rule_book.specs.EntryScores.{figures_of_team}
use Rattle.rule_book.specs.History.{Event}
use Rattle.rule_book.specs.HistoryTransfers.{is_past_first, swaps_in}
use Rattle.rule_book.specs.TeamScores.{counting, points_of_slots}
use Rattle.rule_book.specs.Teams.{all_slots}
use Rattle.season_book.specs.Book.{EntryFacts, Facts}
use Rattle.season_book.specs.EntryViews.{score_by, team_by}
use Rattle.season_book.specs.EntryTotals.{overall_rank, total_through}

-- what a row says of an entry's gameweek: what is left in the bank, how many transfers were made and what they cost, the
-- rank through it, the points before deductions, those of the slots that do not count, and the total through it
pub record EntryRow : Type 0 where
  pub bank : ℕ
  pub event : ℕ
  pub transfers : ℕ
  pub cost : ℕ
  pub rank : ℕ
  pub points : ℤ
  pub bench : ℤ
  pub total : ℤ

abbrev pub entry_row_data : EntryRow → Data
entry_row_data row = object
    (member (codes "bank") (count row.bank)
    (member (codes "event") (count row.event)
    (member (codes "event_transfers") (count row.transfers)
    (member (codes "event_transfers_cost") (count row.cost)
    (member (codes "overall_rank") (count row.rank)
    (member (codes "points") (integer row.points)
    (member (codes "points_on_bench") (integer row.bench)
    (member (codes "total_points") (integer row.total)
    no_members))))))))

-- how many transfers a history has in a gameweek; none are told of its first
abbrev pub transfers_in : List Event → ℕ → ℕ
transfers_in h g = if is_past_first h g then swaps_in h g else 0

-- the points of a slot count, where these stand for the starters
abbrev pub does_count : Team → List ℕ → ℕ → Bool
does_count team eleven slot = list_any (λ other. other == slot) (counting team eleven)

-- the slots whose points do not count
abbrev pub benched : Team → List ℕ → List ℕ
benched team eleven = filter (λ slot. not (does_count team eleven slot)) all_slots

-- what the fifteen of a history did in a gameweek, by slot
abbrev pub figures_by : Facts → List Event → ℕ → List Figures
figures_by facts h g = figures_of_team facts.profile facts.calendar facts.players facts.matches (team_by facts h g) g

-- the points of the slots that do not count
abbrev pub bench_points : Facts → List Event → ℕ → ℤ
bench_points facts h g = points_of_slots (figures_by facts h g) (benched (team_by facts h g) (score_by facts h g).eleven.slots)

-- the row of an entry's gameweek
abbrev pub entry_row_of : Facts → List EntryFacts → ℕ × EntryFacts → ℕ → EntryRow
entry_row_of facts entries row g = record {
  bank = (team_by facts row.1.history g).bank;
  event = g;
  transfers = transfers_in row.1.history g;
  cost = (score_by facts row.1.history g).cost;
  rank = overall_rank facts entries g row;
  points = (score_by facts row.1.history g).gross;
  bench = bench_points facts row.1.history g;
  total = total_through facts row.1.history g;
}
