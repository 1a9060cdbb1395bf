-- What a keeper holds behind the commits of a request.
use Rattle.std.specs.Prelude.{◌≡◌, ◌⊎◌, ℕ, Bool, true, false, List}
use Rattle.fpl_base.specs.Keeping.{Map, applied}
use Rattle.fpl_base.specs.declared.kinds.Caller.{Caller}
use Rattle.fpl_base.specs.declared.records.Op.{Op}
use Rattle.season_book.specs.Book.{Book}
use Rattle.season_book.specs.Verdict.{IsVerdict, MayBeLeft, Verdict, pass}
use Rattle.season_book.specs.declared.request.Request.{Request}
use Rattle.season_records.specs.declared.slot.Slot.{Slot}
use Rattle.season_records.specs.Keeping.{AsksInTime, Leads}
use Rattle.season_records.specs.Records.{records, told}
use Rattle.season_records.specs.Touched.{batch, locked_slots, touched_in}

-- what a keeper holds behind a commit, by whether it went well: the map with the batch applied; else that or the map before
abbrev pub Committed : Map → List Op → Bool → Map → Type 0
Committed m ops true after = after ≡ applied m ops
Committed m ops false after = (after ≡ m) ⊎ (after ≡ applied m ops)

-- the records of the book behind; where the commit did not go well, those of one of the two books
abbrev pub HoldsOne : Book → Book → Bool → Map → Type 0
HoldsOne before behind true m = m ≡ records behind
HoldsOne before behind false m = (m ≡ records before) ⊎ (m ≡ records behind)

-- a commit of slots that lead from a book to another, over the records of the first
abbrev pub CommitsHoldOne : Type 0
CommitsHoldOne =
    (slots : List Slot) (before behind : Book) (m after : Map) (went : Bool)
    → Leads slots before behind → m ≡ records before → Committed m (batch (told behind) slots) went after → HoldsOne before behind went after

-- such a commit, or none where the two books are the same
abbrev pub MayCommit : List Slot → Book → Book → Map → Bool → Map → Type 0
MayCommit slots before behind m went after =
    ((behind ≡ before) × (went ≡ true) × (after ≡ m)) ⊎ Committed m (batch (told behind) slots) went after

-- the second of two commits, which is made where the first went well
abbrev pub ThenCommits : List Slot → Book → Book → Bool → Map → Bool → Map → Type 0
ThenCommits slots before behind true m went after = MayCommit slots before behind m went after
ThenCommits slots before behind false m went after = after ≡ m

-- the map holds the records of a book that the request may leave where memory ran out or the keeper failed
abbrev pub HoldsLeft : List ℕ → Book → Caller → ℕ → Request → Map → Type 0
HoldsLeft operator book caller now asked m = (left : Book) × MayBeLeft operator book caller now asked left × (m ≡ records left)

-- where both commits went well it holds those of the verdict's book
abbrev pub EndsAs : List ℕ → Book → Caller → ℕ → Request → Verdict → Bool → Bool → Map → Type 0
EndsAs operator book caller now asked verdict true true m = m ≡ records verdict.book
EndsAs operator book caller now asked verdict true false m = HoldsLeft operator book caller now asked m
EndsAs operator book caller now asked verdict false went m = HoldsLeft operator book caller now asked m

-- over a keeper that holds the records of the book, what the moment locks is committed, and then, where that went well,
-- what the request touched
abbrev pub RequestsCommit : Type 0
RequestsCommit =
    (operator : List ℕ) (book : Book) (caller : Caller) (now : ℕ) (asked : Request) (verdict : Verdict)
    (start middle end : Map) (locked went : Bool)
    → AsksInTime (pass book now) caller asked → IsVerdict operator book caller now asked verdict
    → start ≡ records book
    → MayCommit locked_slots book (pass book now) start locked middle
    → ThenCommits (touched_in (pass book now) caller asked) (pass book now) verdict.book locked middle went end
    → EndsAs operator book caller now asked verdict locked went end
