-- What holds of the money of every entry in a book that a host stands for.
use Rattle.std.specs.Prelude.{◌≡◌, ◌++◌, ℕ, true, List, Some, IfSome, Ok, map}
use Rattle.fpl_base.specs.declared.kinds.Caller.{Caller}
use Rattle.rule_book.specs.declared.transfers.Sale.{Sale}
use Rattle.rule_book.specs.declared.transfers.Swap.{Swap}
use Rattle.rule_book.specs.Batch.{IsTeamAfter, sales_of}
use Rattle.rule_book.specs.Calendar.{next_gameweek}
use Rattle.rule_book.specs.Entries.{entry_in}
use Rattle.rule_book.specs.History.{Event, in_gameweek}
use Rattle.rule_book.specs.History.Deed.{Swap as Swapped}
use Rattle.rule_book.specs.HistoryTeam.{Balances, is_begun}
use Rattle.rule_book.specs.PlayerFigures.{position_in}
use Rattle.rule_book.specs.Players.{ArePlayers}
use Rattle.rule_book.specs.TeamOfHistory.{CanPay}
use Rattle.season_ledger.specs.Stands.{Tell}
use Rattle.manager_book.specs.declared.manager.Manager.{Manager}
use Rattle.manager_book.specs.Managers.{manager_in}
use Rattle.season_book.specs.Book.{Book, EntryFacts, Facts, caller_number}
use Rattle.season_book.specs.EntryViews.{team_by}
use Rattle.season_book.specs.Verdict.{Outcome, locked_at, pass, ruled, with_history}
use Rattle.season_book.specs.declared.command.Command.TheVariants as command
use Rattle.season_entries.specs.EntryLaws.{AreEarly}
use Rattle.season_running.specs.Standing.{HostRows, StandsIn, passed}

-- the players of a season are lawful, and nothing was done in a gameweek behind the next one or the last
pub record IsOrderly (facts : Facts) (managers : List Manager) : Type 0 where
  pub players : ArePlayers facts.players
  pub early : AreEarly facts managers

-- the season of a host is, if it has one
abbrev pub IsOrderlyHost : HostRows → Type 0
IsOrderlyHost host = IfSome host.facts (λ facts. IsOrderly facts host.managers)

-- entry e of a book that an orderly host with these facts stands for
pub record IsEntryOf (host : HostRows) (book : Book) (facts : Facts) (e : ℕ) (entry : EntryFacts) : Type 0 where
  pub orderly : IsOrderlyHost host
  pub stands : StandsIn host book
  pub season : host.facts ≡ Some facts
  pub there : entry_in book.entries e ≡ Some entry

-- when a moment was told, it is one too, with the gameweeks locked whose deadlines have passed
abbrev pub MomentsKeepEntries : Type 0
MomentsKeepEntries = (host : HostRows) (book : Book) (facts : Facts) (e : ℕ) (entry : EntryFacts) (now : ℕ)
    → IsEntryOf host book facts e entry → IsEntryOf (passed now host) (pass book now) (locked_at now facts) e entry

-- What the rows say.

-- the rows of each entry tell its history: the team of each gameweek with its prices and its bank, the first gameweek, the
-- chips, the transfers, what is free of them, what the others cost and what a table counts
abbrev pub RowsTellHistories : Type 0
RowsTellHistories = (host : HostRows) (book : Book) (facts : Facts) (e : ℕ) (entry : EntryFacts)
    → IsEntryOf host book facts e entry → Tell (position_in facts.players) (manager_in host.managers e).season entry.history

-- What is in the bank.

-- what counts in a gameweek can be paid, the team's players are those counted in, and its money balances: what is in the
-- bank and what the fifteen cost is 1000 and what the kept transfers gained
pub record IsPaid (facts : Facts) (h : List Event) (g : ℕ) : Type 0 where
  pub pays : CanPay h g
  pub balances : Balances h g (team_by facts h g)

-- so it is of each entry in each gameweek from its first on
abbrev pub MoneyIsRecorded : Type 0
MoneyIsRecorded = (host : HostRows) (book : Book) (facts : Facts) (e : ℕ) (entry : EntryFacts) (g : ℕ)
    → IsEntryOf host book facts e entry → is_begun entry.history g ≡ true → IsPaid facts entry.history g

-- What a batch of transfers moves.

-- the sales that a batch makes in a gameweek, and the history behind them
abbrev pub sales_by : Facts → List Event → ℕ → List Swap → List Sale
sales_by facts h g swaps = sales_of facts.players (team_by facts h g).picks swaps

abbrev pub history_with : Facts → List Event → ℕ → List Swap → List Event
history_with facts h g swaps = h ++ in_gameweek g (map Swapped (sales_by facts h g swaps))

-- a batch of entry e in a gameweek led to this book: the entry's history alone went on, by the sales; what counts then can
-- be paid; and the team is the one before with the incomers in place, the same armbands and chip, and the bank that the
-- sales leave: it and what they paid is the bank before and what they earned
pub record MovesBySales (facts : Facts) (e : ℕ) (entry : EntryFacts) (g : ℕ) (swaps : List Swap) (old new : Book) : Type 0 where
  pub book : new ≡ with_history old e (history_with facts entry.history g swaps)
  pub there : entry_in new.entries e ≡ Some (record entry { history = history_with facts entry.history g swaps })
  pub pays : CanPay (history_with facts entry.history g swaps) g
  pub team : IsTeamAfter (sales_by facts entry.history g swaps)
      (team_by facts entry.history g) (team_by facts (history_with facts entry.history g swaps) g)

-- so it is of each batch that is ruled well
abbrev pub BatchesMoveMoney : Type 0
BatchesMoveMoney = (operator : List ℕ) (host : HostRows) (book : Book) (facts : Facts) (entry : EntryFacts) (caller : Caller)
    (now g : ℕ) (swaps : List Swap) (outcome : Outcome)
    → IsEntryOf host book facts (caller_number caller) entry → next_gameweek facts.calendar ≡ Some g
    → ruled operator book caller now (command.Transfers swaps) ≡ Ok outcome
    → MovesBySales facts (caller_number caller) entry g swaps book outcome.book
