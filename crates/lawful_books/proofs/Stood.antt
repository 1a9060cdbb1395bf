-- Of a book for which rows stood, what each manager did is a history that ends by the next gameweek, and what counts in
-- each gameweek can be paid.
use Rattle.std.proofs.Common.{◌≡◌, ◌<◌, ℕ, true, false, List, [], AllPairs, Option, Some, None, sym, ap, subst, ◌∙◌}
use Rattle.std.specs.Option.{option_map_or}
use Rattle.std.proofs.lemmas.Bool.{false≢true}
use Rattle.fpl_base.specs.declared.kinds.Position.{Position}
use Rattle.rule_book.specs.Entries.{entry_in}
use Rattle.rule_book.specs.History.{Event, is_touched}
use Rattle.rule_book.specs.HistoryRules.{IsHistory, NoneAfter}
use Rattle.rule_book.specs.PlayerFigures.{position_in}
use Rattle.rule_book.specs.TeamOfHistory.{CanPay}
use Rattle.rule_book.proofs.TeamFacts.{team_is_the_one}
use Rattle.season_ledger.specs.Rows.{row_at}
use Rattle.season_ledger.specs.Stands.{StandsFor, Tells}
use Rattle.season_ledger.specs.declared.row.Standing.{Standing}
use Rattle.manager_book.specs.declared.manager.Manager.{Manager}
use Rattle.season_book.specs.Book.{Book, EntryFacts, Facts}
use Rattle.season_records.specs.Touched.{gameweek_of}
use Rattle.season_entries.specs.Entries.{AreEntries, IsEntry}
use Rattle.season_entries.proofs.Placing.{rising_positions}
use Rattle.season_running.specs.Standing.{players_in}
use Rattle.record_changes.proofs.EntriesTold.{Both, both_at}
use Rattle.season_opening.specs.Opening.{IsKeepable}

-- what counts in a gameweek of which rows tell can be paid
paid_by : (position : ℕ → Position) (h : List Event) (g : ℕ) (o : Option Standing) → Tells position h g o → is_touched h g ≡ true → CanPay h g
paid_by position h g None bare here = absurd (false≢true (sym bare ∙ here))
paid_by position h g (Some s) tells here = ((team_is_the_one position h g s.team).0 tells.1).0

-- so it is of each entry's history
pub record IsStood (book : Book) (h : List Event) : Type 0 where
  pub history : IsHistory h
  pub early : NoneAfter (gameweek_of book) h
  pub paid : (g : ℕ) → is_touched h g ≡ true → CanPay h g

pub stood : (book : Book) (facts : Facts) (e : ℕ) (entry : EntryFacts) → IsKeepable book → AllPairs (λ p q. p.id < q.id) facts.players
    → book.facts ≡ Some facts → entry_in book.entries e ≡ Some entry → IsStood book entry.history
stood book facts e entry keepable rise season at =
    by (entry_in keepable.rows.managers e)
    (subst (λ o. Both (IsEntry facts.players) (entry_in keepable.rows.managers e) o) at (both_at facts.players keepable.rows.managers book.entries are e))
  where
    are : AreEntries facts.players keepable.rows.managers book.entries
    are = subst (λ o. AreEntries (players_in o) keepable.rows.managers book.entries) (sym keepable.stood.facts ∙ season) keepable.stood.entries

    by : (o : Option Manager) → Both (IsEntry facts.players) o (Some entry) → IsStood book entry.history
    by None both = absurd both
    by (Some manager) both =
        let position : ℕ → Position = position_in facts.players in
        let stands : StandsFor position manager.season entry.history = both.history position (rising_positions facts.players rise) in
        record {
          history = stands.history;
          early = subst (NoneAfter (gameweek_of book)) (ap (λ o. option_map_or (λ (entry : EntryFacts). entry.history) o []) at) (keepable.early e);
          paid = λ g here. paid_by position entry.history g (row_at manager.season g) (stands.told g) here;
        }
