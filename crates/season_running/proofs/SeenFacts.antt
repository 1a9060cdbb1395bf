-- What is told of a season as a view sees it, for each book that its managers stand for, is so of a book that it plays.
use Rattle.std.proofs.Common.{◌≡◌, List, subst, sym}
use Rattle.season_book.specs.Book.{Book, EntryFacts}
use Rattle.season_entries.specs.Entries.{AreEntries}
use Rattle.season_views.specs.Seen.{OfEachSeen, SeenSeason}
use Rattle.season_running.specs.Kept.{seen_of}
use Rattle.season_running.specs.Standing.{Plays, Running}

module _ (running : Running) (book : Book) (s : SeenSeason) (same : s ≡ seen_of running) (plays : Plays running book) where
  pub entries_seen : AreEntries s.facts.players s.managers.managers book.entries
  entries_seen = subst (λ (s : SeenSeason). AreEntries s.facts.players s.managers.managers book.entries) (sym same) plays.entries

  pub of_book : (Holds : SeenSeason → List EntryFacts → Type 0) → OfEachSeen s (Holds s) → Holds (seen_of running) book.entries
  of_book Holds each = subst (λ (s : SeenSeason). Holds s book.entries) same (each book.entries entries_seen)
