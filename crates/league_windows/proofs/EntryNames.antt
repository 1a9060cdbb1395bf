-- The name of a manager, if he was issued, is that of the entry in each book.
use Rattle.std.proofs.Common.{◌≡◌, ◌≤◌, ◌-◌, ℕ, List, [], Option, Some, None, refl, ap, ◌∙◌, if◌then◌else◌}
use Rattle.season_views.proofs.Histories.{names_at, some_number}
use Rattle.std.specs.List.{slice_get}
use Rattle.std.specs.Option.{option_map, option_map_or}
use Rattle.rule_book.specs.declared.player.Player.{Player}
use Rattle.manager_book.specs.Managers.{Managers, name_of as name_by}
use Rattle.season_book.specs.Book.{EntryFacts}
use Rattle.season_book.specs.LeagueViews.{name_of}
use Rattle.season_entries.specs.Entries.{AreEntries}

abbrev text_of : Option (List ℕ) → List ℕ
text_of o = option_map_or (λ name. name) o []

by_entry : (o : Option EntryFacts) → text_of (option_map (λ entry. entry.name) o) ≡ option_map_or (λ entry. entry.name) o []
by_entry None = refl
by_entry (Some entry) = refl

pub name_is : (players : List Player) (managers : Managers) (entries : List EntryFacts) (e : ℕ) (o : Option (List ℕ)) → AreEntries players managers.managers entries → 1 ≤ e → o ≡ name_by managers e
    → option_map_or (λ name. name) o [] ≡ name_of entries e
name_is players managers entries e o are one is =
    ap text_of (is ∙ names_at players managers.managers entries (e - 1) are)
    ∙ by_entry (slice_get entries (e - 1))
    ∙ ap (λ b. option_map_or (λ entry. entry.name) (if b then None else slice_get entries (e - 1)) []) (some_number e one)
