-- What a load asks of a host, and what it writes.
use Rattle.std.specs.Prelude.{◌≡◌, ◌+◌, ◌++◌, ℕ, Bool, true, false, List, [], ◌∷◌, Option, Some, None, MatchOption, codes, if◌then◌else◌, nat_lt}
use Rattle.std.specs.Fmt.{decimal}
use Rattle.fpl_base.specs.declared.kinds.Caller.TheVariants as caller
use Rattle.fpl_base.specs.declared.rule.Rule.{Rule}
use Rattle.fpl_base.specs.declared.rule.Rule.TheVariants as rule
use Rattle.season_book.specs.Book.{last_number}
use Rattle.season_book.specs.declared.answer.Answer.{Answer}
use Rattle.season_book.specs.declared.answer.Answer.TheVariants as answer
use Rattle.season_book.specs.declared.command.Command.{Command}
use Rattle.season_book.specs.declared.request.Request.TheVariants as request
use Rattle.request_handler.specs.Replying.{Served}
use Rattle.local_requests.specs.Asking.{IsHeard}
use Rattle.local_requests.specs.Printing.{EndsBy, PrintsOne}
use Rattle.fpl_loading.specs.Notes.{cause_of, no_place, note_passed, place_behind}
use Rattle.fpl_loading.specs.declared.notes.Note.{Note}
use Rattle.fpl_loading.specs.declared.notes.Place.{Place}

-- a rule refuses a command whose number is below the caller's last one
abbrev pub is_number_old : Rule → Bool
is_number_old (rule.NumberOld last) = true
is_number_old broken = false

-- what an answer to the operator's command of a number counts, where this was his last number as the load began: one command
-- that was loaded, if it was done just now; one that was there, if it was done before; and none where the load ends by it
abbrev pub counts_of : ℕ → ℕ → Answer → Option (ℕ × ℕ)
counts_of last number (answer.Done done made) = if nat_lt last number then Some (1, 0) else Some (0, 1)
counts_of last number (answer.Rule broken) = if is_number_old broken then Some (0, 1) else None
counts_of last number told = None

-- the line that says how many commands were loaded, and how many were there
abbrev pub loaded_text : ℕ → ℕ → List ℕ
loaded_text loaded there = codes "loaded " ++ (decimal loaded ++ (codes ", there " ++ (decimal there ++ 10 ∷ [])))

-- commands are asked as the operator, one after another behind so many that were asked and the place of the last of them, each
-- with the next number, the books following on. The first answer that does not count ends the load, and its cause is noted;
-- behind the last command the counts are written
abbrev pub LoadsOn : ℕ → ℕ → Place → List Command → ℕ → ℕ → Option (List ℕ) → Option (List ℕ) → ℕ → Option Note → Served → Served → Type 0
LoadsOn last asked place [] loaded there before after status noted old new =
    (new ≡ old) × (noted ≡ note_passed last asked) × PrintsOne (λ text. text ≡ loaded_text loaded there) 0 status before after
LoadsOn last asked place (command ∷ commands) loaded there before after status noted old new =
    (told : Answer) × (mid : Served) × IsHeard old caller.Operator (request.Command (asked + 1) command) told mid
    × MatchOption (counts_of last (asked + 1) told) ((new ≡ mid) × (noted ≡ cause_of (place_behind place command) told) × EndsBy told status before after)
    (λ counts. LoadsOn last (asked + 1) (place_behind place command) commands (loaded + counts.0) (there + counts.1) before after status noted mid new)

-- commands are loaded, from number 1 on
abbrev pub IsLoad : List Command → Option (List ℕ) → Option (List ℕ) → ℕ → Option Note → Served → Served → Type 0
IsLoad commands before after status noted old new =
    LoadsOn (last_number old.host.book caller.Operator) 0 no_place commands 0 0 before after status noted old new
