-- The entries of a book that kept rows stand for.
use Rattle.std.specs.Prelude.{◌≡◌, ℕ, List, [], ◌∷◌, ⊤}
use Rattle.fpl_base.specs.declared.kinds.Position.{Position}
use Rattle.rule_book.specs.declared.player.Player.{Player}
use Rattle.rule_book.specs.declared.transfers.Sale.{Sale}
use Rattle.rule_book.specs.Batch.{HavePositions}
use Rattle.rule_book.specs.EntryRecords.{sales_in, sold_in}
use Rattle.rule_book.specs.History.{Event}
use Rattle.season_ledger.specs.Stands.{StandsFor}
use Rattle.manager_book.specs.declared.manager.Manager.{Manager}
use Rattle.season_book.specs.Book.{EntryFacts}

-- sales are those of a history: in each gameweek its transfers, in order
abbrev pub AreSold : List (ℕ × Sale) → List Event → Type 0
AreSold sales h = (g : ℕ) → sales_in sales g ≡ sold_in h g

-- a manager stands for an entry: the same key and name, rows that stand for its history, wherever the players of the
-- season may play, and its sales
pub record IsEntry (players : List Player) (manager : Manager) (entry : EntryFacts) : Type 0 where
  pub key : entry.key ≡ manager.key
  pub name : entry.name ≡ manager.name
  pub history : (position : ℕ → Position) → HavePositions position players → StandsFor position manager.season entry.history
  pub sales : AreSold manager.sales entry.history

-- managers stand for entries, one by one
abbrev pub AreEntries : List Player → List Manager → List EntryFacts → Type 0
AreEntries players [] [] = ⊤
AreEntries players (manager ∷ managers) (entry ∷ entries) = IsEntry players manager entry × AreEntries players managers entries
AreEntries players managers entries = ⊥
