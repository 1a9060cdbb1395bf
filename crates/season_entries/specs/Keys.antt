-- New entries, and other keys of entries, by the keys that managers have.
use Rattle.std.specs.Prelude.{◌≡◌, ◌≤◌, ◌++◌, ℕ, List, [], ◌∷◌, length, map, not, Option, Some, Result, IfSome, if◌then◌else◌, ◌&&◌, is_some, nat_le, nat_lt}
use Rattle.std.specs.Option.{option_map}
use Rattle.fpl_base.specs.declared.rule.Rule.{Rule}
use Rattle.fpl_base.specs.declared.rule.Rule.TheVariants as rule
use Rattle.rule_book.specs.declared.player.Player.{Player}
use Rattle.rule_book.specs.Entries.{most_entries}
use Rattle.rule_book.specs.Refusals.{IsJudged, first_broken, unless}
use Rattle.manager_book.specs.declared.manager.Manager.{Manager}
use Rattle.manager_book.specs.Managers.{number_from}
use Rattle.season_book.specs.Book.{EntryFacts}
use Rattle.season_book.specs.declared.answer.Answer.{Answer}
use Rattle.season_book.specs.declared.answer.Answer.TheVariants as answer
use Rattle.season_book.specs.Hosts as hosts
use Rattle.season_book.specs.Hosts.{caller_with}
use Rattle.season_book.specs.KeyCommands.{entries_rekeyed, rekey_refusal}
use Rattle.season_book.specs.LeagueCommands.{is_issued}
use Rattle.season_book.specs.Verdict.{key_refusal}
use Rattle.season_entries.specs.Deeds.{IsAnswered}
use Rattle.season_entries.specs.Entries.{AreEntries}

-- the keys of managers
abbrev pub keys_of : List Manager → List (List ℕ)
keys_of managers = map (λ manager. manager.key) managers

-- why a new entry is refused: there is no room, or its key is an entry's or the operator's
abbrev pub key_broken : List ℕ → List Manager → List ℕ → Option Rule
key_broken operator managers key =
    first_broken (
    unless (nat_lt (length managers) most_entries) rule.EntriesFull
    ∷ unless (not (is_some (caller_with operator (keys_of managers) key))) rule.KeyThere
    ∷ [])

-- a key was judged as each book says for which the managers stand
abbrev pub IsKeyJudgedByBooks : {T : Type 0} → List ℕ → List Manager → List ℕ → Result T Rule → Type 0
IsKeyJudgedByBooks operator managers key judged = (players : List Player) (entries : List EntryFacts)
    → AreEntries players managers entries → IsJudged (key_refusal operator entries key) judged

-- an entry is there, and this key is nobody's or its own
pub record IsRekeyGranted (managers : List Manager) (e : ℕ) (key : List ℕ) : Type 0 where
  pub one : 1 ≤ e
  pub issued : e ≤ length managers
  pub free : IfSome (number_from 1 managers key) (λ owner. owner ≡ e)

-- the answer that refuses an entry a key, if one does: there is no such entry, or it is the operator's or another entry's
abbrev pub rekey_broken : List ℕ → List Manager → ℕ → List ℕ → Option Answer
rekey_broken operator managers e key =
    if nat_le 1 e && nat_le e (length managers) then option_map answer.Rule (rekey_refusal operator (keys_of managers) e key)
    else Some answer.Unknown

-- the same in a book with these entries
abbrev pub rekey_answer : List ℕ → List EntryFacts → ℕ → List ℕ → Option Answer
rekey_answer operator entries e key =
    if is_issued entries e then option_map answer.Rule (rekey_refusal operator (hosts.keys_of entries) e key) else Some answer.Unknown

-- it was judged as each book says for which the managers stand
abbrev pub IsRekeyJudgedByBooks : {T : Type 0} → List ℕ → List Manager → ℕ → List ℕ → Result T Answer → Type 0
IsRekeyJudgedByBooks operator managers e key judged = (players : List Player) (entries : List EntryFacts)
    → AreEntries players managers entries → IsAnswered (rekey_answer operator entries e key) judged

-- the managers stand for each book for which they stood, where entry e has this key and this name
abbrev pub StandForBooksRekeyed : ℕ → List ℕ → List ℕ → List Manager → List Manager → Type 0
StandForBooksRekeyed e key name old new = (players : List Player) (entries : List EntryFacts)
    → AreEntries players old entries → AreEntries players new (entries_rekeyed entries (record { entry = e; key = key; name = name }))

-- a new manager, who did nothing yet, and the entry for which he stands
abbrev pub new_manager : List ℕ → List ℕ → Manager
new_manager key name = record { key = key; name = name; season = []; sales = [] }

abbrev pub new_entry : List ℕ → List ℕ → EntryFacts
new_entry key name = record { key = key; name = name; history = [] }

-- the managers stand for each book for which they stood, with one entry more
abbrev pub StandForBooksWith : List ℕ → List ℕ → List Manager → List Manager → Type 0
StandForBooksWith key name old new = (players : List Player) (entries : List EntryFacts)
    → AreEntries players old entries → AreEntries players new (entries ++ new_entry key name ∷ [])
