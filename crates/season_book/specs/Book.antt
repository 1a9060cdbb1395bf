-- The book of a season: all that is so, and what each caller did last. Whatever is shown is computed anew from it.
use Rattle.std.specs.Prelude.{ℕ, zero, suc, List, [], ◌∷◌, Option, None}
use Rattle.std.specs.Option.{option_map_or}
use Rattle.fpl_base.specs.declared.kinds.Caller.{Caller}
use Rattle.fpl_base.specs.declared.kinds.Caller.TheVariants.{Operator, Entry}
use Rattle.fpl_base.specs.declared.kinds.Profile.{Profile}
use Rattle.rule_book.specs.declared.cup.Bracket.{Bracket}
use Rattle.rule_book.specs.declared.player.Player.{Player}
use Rattle.rule_book.specs.ById.{at_id, placed_at}
use Rattle.rule_book.specs.Calendar.{CalendarFacts}
use Rattle.rule_book.specs.History.{Event}
use Rattle.rule_book.specs.Leagues.{LeagueFacts}
use Rattle.rule_book.specs.MatchFacts.{MatchFacts}
use Rattle.season_book.specs.declared.command.Command.{Command}
use Rattle.season_book.specs.declared.made.Made.{Made}

-- what the operator handed in: by which rules the season is played, its calendar, its clubs with their names and its
-- players, by ascending id, and the figures of its matches
pub record Facts : Type 0 where
  pub profile : Profile
  pub calendar : CalendarFacts
  pub clubs : List (ℕ × List ℕ)
  pub players : List Player
  pub matches : MatchFacts

-- an entry: its key, its name, and what its manager did
pub record EntryFacts : Type 0 where
  pub key : List ℕ
  pub name : List ℕ
  pub history : List Event

-- a caller's last accepted command, under its number, and what it made
pub record Last : Type 0 where
  pub number : ℕ
  pub command : Command
  pub made : Made

-- the book: the facts, once there is a season; the entries, leagues and cups, each in order of making; and the last
-- command of each caller who had one accepted, by the caller's number
pub record Book : Type 0 where
  pub facts : Option Facts
  pub entries : List EntryFacts
  pub leagues : List LeagueFacts
  pub cups : List Bracket
  pub lasts : List (ℕ × Last)

-- the book before a season
abbrev pub empty_book : Book
empty_book = record { facts = None; entries = []; leagues = []; cups = []; lasts = [] }

-- the entries where the manager of this one did this
abbrev pub histories_with : List EntryFacts → ℕ → List Event → List EntryFacts
histories_with [] e h = []
histories_with (entry ∷ entries) zero h = entry ∷ entries
histories_with (entry ∷ entries) (suc zero) h = record entry { history = h } ∷ entries
histories_with (entry ∷ entries) (suc (suc e)) h = entry ∷ histories_with entries (suc e) h

-- the number of a caller: 0 of the operator, else that of the entry
abbrev pub caller_number : Caller → ℕ
caller_number Operator = 0
caller_number (Entry e) = e

-- a caller's last accepted command, if he had one accepted
abbrev pub last_of : Book → Caller → Option Last
last_of book caller = at_id book.lasts (caller_number caller)

-- its number, 0 before the first
abbrev pub last_number : Book → Caller → ℕ
last_number book caller = option_map_or (λ last. last.number) (last_of book caller) 0

-- the book when this was the caller's last accepted command
abbrev pub with_last : Book → Caller → Last → Book
with_last book caller last = record book { lasts = placed_at book.lasts (caller_number caller) ((caller_number caller, last) ∷ []) }
