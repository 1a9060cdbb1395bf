-- Whose keys are whose behind another key of an entry.
use Rattle.std.specs.Prelude.{◌≡◌, ◌≢◌, ℕ, List, Option, Some, None, Ok}
use Rattle.fpl_base.specs.declared.kinds.Caller.TheVariants.{Entry}
use Rattle.rule_book.specs.Entries.{entry_in}
use Rattle.season_book.specs.Book.{Book, EntryFacts}
use Rattle.season_book.specs.Hosts.{caller_with, entry_with, keys_of}
use Rattle.season_book.specs.KeyCommands.{NewKey}
use Rattle.season_book.specs.Verdict.{Outcome, key_ruled}
use Rattle.lawful_books.specs.Leagues.{AreLawful}

-- the new key is the entry's, and the old one, where it is another, is no entry's
pub record ChangesHands (operator : List ℕ) (given : NewKey) (old : List ℕ) (after : List EntryFacts) : Type 0 where
  pub is_its_own : caller_with operator (keys_of after) given.key ≡ Some (Entry given.entry)
  pub is_nobodys : old ≢ given.key → entry_with (keys_of after) old ≡ None

-- so it is behind every key that an entry of a lawful book was given
abbrev pub KeysChangeHands : Type 0
KeysChangeHands = (operator : List ℕ) (book : Book) (given : NewKey) (entry : EntryFacts) (outcome : Outcome)
    → AreLawful book → entry_in book.entries given.entry ≡ Some entry → key_ruled operator book given ≡ Ok outcome
    → ChangesHands operator given entry.key outcome.book.entries
