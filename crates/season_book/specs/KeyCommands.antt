-- The command that gives an entry another key and another name: what refuses it, and what it changes.
use Rattle.std.specs.Prelude.{ℕ, Bool, true, false, ◌==◌, List, Option, Some, None}
use Rattle.fpl_base.specs.declared.kinds.Caller.{Caller}
use Rattle.fpl_base.specs.declared.kinds.Caller.TheVariants.{Operator, Entry}
use Rattle.fpl_base.specs.declared.rule.Rule.{Rule}
use Rattle.fpl_base.specs.declared.rule.Rule.TheVariants as rule
use Rattle.rule_book.specs.Entries.{changed_in}
use Rattle.rule_book.specs.Refusals.{unless}
use Rattle.season_book.specs.Book.{EntryFacts}
use Rattle.season_book.specs.declared.command.Command.{Command}
use Rattle.season_book.specs.declared.command.Command.TheVariants as command
use Rattle.season_book.specs.Hosts.{caller_with}

-- an entry's new key and new name
pub record NewKey : Type 0 where
  pub entry : ℕ
  pub key : List ℕ
  pub name : List ℕ

-- what a command gives an entry
abbrev pub key_given : Command → Option NewKey
key_given (command.Rekey e key name) = Some (record { entry = e; key = key; name = name })
key_given command = None

-- a key is nobody's, or this entry's own
abbrev pub is_open_to : ℕ → Option Caller → Bool
is_open_to e None = true
is_open_to e (Some Operator) = false
is_open_to e (Some (Entry other)) = other == e

-- why an entry is refused a key, beside these of entries: it is the operator's or another entry's
abbrev pub rekey_refusal : List ℕ → List (List ℕ) → ℕ → List ℕ → Option Rule
rekey_refusal operator keys e key = unless (is_open_to e (caller_with operator keys key)) rule.KeyThere

-- an entry with its new key and its new name
abbrev pub with_key : NewKey → EntryFacts → EntryFacts
with_key given entry = record entry { key = given.key; name = given.name }

-- the entries where one has its new key and its new name
abbrev pub entries_rekeyed : List EntryFacts → NewKey → List EntryFacts
entries_rekeyed entries given = changed_in (with_key given) entries given.entry
