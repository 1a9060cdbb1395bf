-- What managers stand for, by the numbers of entries: their histories and their names.
use Rattle.std.proofs.Common.{◌≡◌, ◌≤◌, ◌-◌, ◌==◌, ℕ, zero, suc, false, List, [], ◌∷◌, Option, Some, None, arith, refl, sym, ap, subst, ◌∙◌, if◌then◌else◌, slice_index_or}
use Rattle.std.specs.List.{slice_get}
use Rattle.std.specs.Option.{option_map, option_map_or}
use Rattle.std.proofs.lemmas.Bool.Decides.{nat_tests}
use Rattle.std.proofs.lemmas.Option.{none-some, same_Some}
use Rattle.fpl_base.specs.declared.kinds.Position.{Position}
use Rattle.rule_book.specs.declared.player.Player.{Player}
use Rattle.rule_book.specs.Batch.{HavePositions}
use Rattle.rule_book.specs.Entries.{entry_in}
use Rattle.rule_book.specs.History.{Event}
use Rattle.rule_book.specs.HistoryRules.{FirstTold}
use Rattle.rule_book.specs.PlayerFigures.{position_in}
use Rattle.rule_book.specs.Players.{ArePlayers}
use Rattle.rule_book.specs.UpTo.{start_of}
use Rattle.rule_book.proofs.TeamFacts.{first_is_the_start}
use Rattle.season_ledger.specs.Stands.{StandsFor}
use Rattle.manager_book.specs.declared.manager.Manager.{Manager}
use Rattle.manager_book.specs.Managers.{Managers, name_of as name_by, nobody, season_of}
use Rattle.season_book.specs.Book.{EntryFacts, Facts}
use Rattle.season_book.specs.LeagueViews.{history_of, name_of}
use Rattle.season_entries.specs.Entries.{AreEntries}
use Rattle.season_views.specs.Entries.{OfEachBook, OfEachHistory, OfEachNames}
use Rattle.season_entries.proofs.Placing.{have_positions}

-- no rows stand for a history in which nothing was done
stands_nobody : (position : ℕ → Position) → StandsFor position [] []
stands_nobody position = record { rise = tt; history = tt; told = λ g. refl }

-- the rows at a place stand for the history there, and no rows for none
stands_at : (players : List Player) (managers : List Manager) (entries : List EntryFacts) (place : ℕ) → HavePositions (position_in players) players → AreEntries players managers entries
    → StandsFor (position_in players) (slice_index_or managers place nobody).season (option_map_or (λ entry. entry.history) (slice_get entries place) [])
stands_at players [] [] zero have are = stands_nobody (position_in players)
stands_at players [] [] (suc place) have are = stands_nobody (position_in players)
stands_at players [] (entry ∷ entries) place have are = absurd are
stands_at players (m ∷ managers) [] place have are = absurd are
stands_at players (m ∷ managers) (entry ∷ entries) zero have are = are.0.history (position_in players) have
stands_at players (m ∷ managers) (entry ∷ entries) (suc place) have are = stands_at players managers entries place have are.1

pub some_number : (e : ℕ) → 1 ≤ e → false ≡ (e == 0)
some_number e one = grind (arith, nat_tests)

-- what holds of each history that an entry's rows stand for holds of its history in each book
pub in_books : (facts : Facts) (managers : Managers) (e : ℕ) (Holds : List Event → Type 0) → ArePlayers facts.players → 1 ≤ e
    → OfEachHistory facts managers e Holds → OfEachBook facts managers (λ entries. Holds (history_of entries e))
in_books facts managers e Holds players one holds entries are =
    holds (history_of entries e)
    (subst (λ b. StandsFor (position_in facts.players) (season_of managers e) (option_map_or (λ entry. entry.history) (if b then None else slice_get entries (e - 1)) [])) (some_number e one)
    (stands_at facts.players managers.managers entries (e - 1) (have_positions facts.players players) are))

-- the names at a place
pub names_at : (players : List Player) (managers : List Manager) (entries : List EntryFacts) (place : ℕ) → AreEntries players managers entries
    → option_map (λ m. m.name) (slice_get managers place) ≡ option_map (λ entry. entry.name) (slice_get entries place)
names_at players [] [] zero are = refl
names_at players [] [] (suc place) are = refl
names_at players [] (entry ∷ entries) place are = absurd are
names_at players (m ∷ managers) [] place are = absurd are
names_at players (m ∷ managers) (entry ∷ entries) zero are = ap Some (sym are.0.name)
names_at players (m ∷ managers) (entry ∷ entries) (suc place) are = names_at players managers entries place are.1

named : (name : List ℕ) (o : Option EntryFacts) → Some name ≡ option_map (λ entry. entry.name) o → name ≡ option_map_or (λ entry. entry.name) o []
named name None is = absurd (none-some name (sym is))
named name (Some entry) is = same_Some name entry.name is

-- the name of a manager is that of the entry in each book
pub name_in_books : (managers : Managers) (e : ℕ) (name : List ℕ) → 1 ≤ e → Some name ≡ name_by managers e → OfEachNames managers (λ entries. name ≡ name_of entries e)
name_in_books managers e name one is players entries are =
    named name (slice_get entries (e - 1)) (is ∙ names_at players managers.managers entries (e - 1) are)
    ∙ ap (λ b. option_map_or (λ entry. entry.name) (if b then None else slice_get entries (e - 1)) []) (some_number e one)

-- what a book's entry has of its manager: his name, and the first gameweek that his rows tell
pub entry_seen : (facts : Facts) (managers : Managers) (entries : List EntryFacts) (e : ℕ) (row : EntryFacts) (name : List ℕ) (first : Option ℕ)
    → ArePlayers facts.players → 1 ≤ e → Some name ≡ name_by managers e → OfEachHistory facts managers e (λ h. FirstTold h first)
    → AreEntries facts.players managers.managers entries → entry_in entries e ≡ Some row → (name ≡ row.name) × (first ≡ start_of row.history)
entry_seen facts managers entries e row name first players one is told are there = (
  name_in_books managers e name one is facts.players entries are ∙ ap (λ o. option_map_or (λ (entry : EntryFacts). entry.name) o []) there,
  (first_is_the_start row.history first).0
      (subst (λ o. FirstTold (option_map_or (λ (entry : EntryFacts). entry.history) o []) first) there
      (in_books facts managers e (λ h. FirstTold h first) players one told entries are)),
)
