-- What a command does not touch is told as before; so where what it touches has values in their ranges, all has.
use Rattle.std.specs.Prelude.{◌≡◌, ℕ, Bool, true, false, List, Option, Ok, IfSome}
use Rattle.std.specs.List.{AllByRecursion, list_any}
use Rattle.fpl_base.specs.Keeping.{is_same_key}
use Rattle.fpl_base.specs.declared.kinds.Caller.{Caller}
use Rattle.season_book.specs.Book.{Book, empty_book}
use Rattle.season_book.specs.Verdict.{IsVerdictIn, Outcome, Verdict, accepted, pass, ruled}
use Rattle.season_book.specs.declared.command.Command.{Command}
use Rattle.season_book.specs.declared.request.Request.{Request}
use Rattle.season_records.specs.Keys.{key_of}
use Rattle.season_records.specs.Ranges.{IsItem}
use Rattle.season_records.specs.declared.item.Item.{Item}
use Rattle.season_records.specs.declared.slot.Slot.{Slot}
use Rattle.season_records.specs.Keeping.{AsksInTime, IsInTime}
use Rattle.season_records.specs.Records.{told}
use Rattle.season_records.specs.Told.{TellsItem, TellsItems}
use Rattle.season_records.specs.Touched.{locked_slots, touched, touched_in}

-- whether one of the slots has the key of this one
abbrev pub is_among : List Slot → Slot → Bool
is_among slots s = list_any (λ t. is_same_key (key_of t) (key_of s)) slots

-- of every slot but these, the book behind tells what the book before told
abbrev pub TellsTheRest : List Slot → Book → Book → Type 0
TellsTheRest slots book behind = (s : Slot) → is_among slots s ≡ false → told book s ≡ told behind s

-- so with a command that is accepted, with a moment, and with each request
abbrev pub UntouchedStay : Type 0
UntouchedStay =
    (operator : List ℕ) (book : Book) (caller : Caller) (now number : ℕ) (command : Command) (outcome : Outcome)
    → IsInTime book caller command → ruled operator book caller now command ≡ Ok outcome
    → TellsTheRest (touched book caller command) book (accepted caller number command outcome)

abbrev pub LocksStay : Type 0
LocksStay = (book : Book) (now : ℕ) → TellsTheRest locked_slots book (pass book now)

abbrev pub UnaskedStay : Type 0
UnaskedStay =
    (operator : List ℕ) (book : Book) (caller : Caller) (now : ℕ) (asked : Request) (verdict : Verdict)
    → AsksInTime book caller asked → IsVerdictIn operator book caller now asked verdict
    → TellsTheRest (touched_in book caller asked) book verdict.book

-- a slot of which nothing is told, or an item with values in their ranges
abbrev pub ToldIsItem : Type 0
ToldIsItem = (book : Book) (s : Slot) (o : Option Item) → told book s ≡ o → IfSome o IsItem → TellsItem book s

-- what a book tells of each of the slots has values in their ranges
abbrev pub TellItems : List Slot → Book → Type 0
TellItems slots book = AllByRecursion (TellsItem book) slots

-- so it is where something else tells the same of each slot, and of these what it tells is in range
abbrev pub LooksTellItems : Type 0
LooksTellItems =
    (look : Slot → Option Item) (slots : List Slot) (book : Book) → ((s : Slot) → look s ≡ told book s)
    → AllByRecursion (λ s. IfSome (look s) IsItem) slots → TellItems slots book

-- that is the same as of each slot that is among them
abbrev pub ItemsAmong : Type 0
ItemsAmong =
    (slots : List Slot) (book : Book) → TellItems slots book → (s : Slot) → is_among slots s ≡ true → TellsItem book s

abbrev pub ItemsOfAmong : Type 0
ItemsOfAmong =
    (slots : List Slot) (book : Book) → ((s : Slot) → is_among slots s ≡ true → TellsItem book s) → TellItems slots book

-- where a book tells the rest and these slots tell items, all tell items
abbrev pub RestsTellItems : Type 0
RestsTellItems =
    (slots : List Slot) (book behind : Book)
    → TellsTheRest slots book behind → TellsItems book → TellItems slots behind → TellsItems behind

-- so values stay in their ranges where those are in them that an accepted command touches, or that a request does
abbrev pub ItemsStay : Type 0
ItemsStay =
    (operator : List ℕ) (book : Book) (caller : Caller) (now number : ℕ) (command : Command) (outcome : Outcome)
    → IsInTime book caller command → ruled operator book caller now command ≡ Ok outcome
    → TellsItems book → TellItems (touched book caller command) (accepted caller number command outcome)
    → TellsItems (accepted caller number command outcome)

abbrev pub VerdictsTellItems : Type 0
VerdictsTellItems =
    (operator : List ℕ) (book : Book) (caller : Caller) (now : ℕ) (asked : Request) (verdict : Verdict)
    → AsksInTime book caller asked → IsVerdictIn operator book caller now asked verdict
    → TellsItems book → TellItems (touched_in book caller asked) verdict.book → TellsItems verdict.book

-- a moment keeps them in their ranges: no more gameweeks are locked than have deadlines
abbrev pub LockedItemsStay : Type 0
LockedItemsStay = (book : Book) (now : ℕ) → TellsItems book → TellsItems (pass book now)

-- the empty book tells nothing, so no value out of its range
abbrev pub EmptyTellsItems : Type 0
EmptyTellsItems = TellsItems empty_book
