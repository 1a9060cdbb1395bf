-- What rows ask of a host, and what is written of them.
use Rattle.std.specs.Prelude.{◌≡◌, ◌⊎◌, ◌+◌, ℕ, List, [], ◌∷◌, Option, Some, None, Result, Ok, Err, ⊤}
use Rattle.fpl_events.specs.declared.row.EventRow.{EventRow}
use Rattle.fpl_events.specs.declared.row.EventRow.TheVariants as row
use Rattle.match_events.specs.Refusals.{rule_number}
use Rattle.match_events.specs.Sheets.{Sheet, insert_refusal, remove_refusal, with_event, without_event}
use Rattle.match_events.specs.declared.refusal.EventRefused.{EventRefused}
use Rattle.match_events.specs.declared.refusal.EventRefused.TheVariants as refused
use Rattle.match_events.specs.declared.refusal.EventRule.{EventRule}
use Rattle.request_handler.specs.Replying.{Served}
use Rattle.local_requests.specs.Printing.{PrintsOne}
use Rattle.fpl_events.specs.Sending.{SendsChanged}
use Rattle.fpl_events.specs.Telling.{sent_text}
use Rattle.local_requests.specs.RowFaults.{refused_text}

-- a rule is why an edit is refused exactly where it is broken; want of memory needs no reason
abbrev pub Explains : Option EventRule → EventRefused → Type 0
Explains broken (refused.Rule rule) = broken ≡ Some rule
Explains broken refused.Memory = ⊤

-- why an edit is refused ends the run so: the row is named with the rule, with status 14; where memory was wanting nothing is
-- written, with status 6
abbrev pub EndsBy : ℕ → EventRefused → ℕ → Option (List ℕ) → Option (List ℕ) → Type 0
EndsBy number (refused.Rule rule) status before after = PrintsOne (λ text. text ≡ refused_text number (rule_number rule)) 14 status before after
EndsBy number refused.Memory status before after = (status ≡ 6) × (after ≡ before)

-- the events were edited, and nothing was sent; or that was refused, which ends the run
abbrev pub Edits : ℕ → Option EventRule → Sheet → Sheet → Option (List ℕ) → Option (List ℕ) → Result ℕ ℕ → Type 0
Edits number broken edited behind before after gave =
    ((broken ≡ None) × (behind ≡ edited) × (gave ≡ Ok 0) × (after ≡ before))
    ⊎ ((why : EventRefused) × Explains broken why × (status : ℕ) × (gave ≡ Err status) × EndsBy number why status before after)

-- the row of a number was done on the events
abbrev pub DoesRow : ℕ → ℕ → EventRow → Sheet → Sheet → Option (List ℕ) → Option (List ℕ) → Result ℕ ℕ → Served → Served → Type 0
DoesRow fixture number (row.Insert place event) sheet behind before after gave old new =
    (new ≡ old) × Edits number (insert_refusal sheet.events place event) (record sheet { events = with_event sheet.events place event }) behind before after gave
DoesRow fixture number (row.Remove place) sheet behind before after gave old new =
    (new ≡ old) × Edits number (remove_refusal sheet.events place) (record sheet { events = without_event sheet.events place }) behind before after gave
DoesRow fixture number row.Send sheet behind before after gave old new = SendsChanged fixture sheet behind before after gave old new

-- rows were done one after another, the first of them with this number, up to the first that ends the run. Behind the last it
-- is written how many commands were sent
abbrev pub PlaysOn : ℕ → ℕ → Sheet → List EventRow → ℕ → Option (List ℕ) → Option (List ℕ) → ℕ → Served → Served → Type 0
PlaysOn fixture number sheet [] sent before after status old new =
    (new ≡ old) × PrintsOne (λ text. text ≡ sent_text sent) 0 status before after
PlaysOn fixture number sheet (row ∷ rows) sent before after status old new =
    ((behind : Sheet) × DoesRow fixture number row sheet behind before after (Err status) old new)
    ⊎ ((more : ℕ) × (behind : Sheet) × (mid : Served) × DoesRow fixture number row sheet behind before before (Ok more) old mid
    × PlaysOn fixture (number + 1) behind rows (sent + more) before after status mid new)

-- a match of so many minutes without events
abbrev pub bare_sheet : ℕ → Sheet
bare_sheet minutes = record { minutes = minutes; events = []; told = [] }

-- the rows of a match were done, for a fixture
abbrev pub IsPlayed : ℕ → ℕ → List EventRow → Option (List ℕ) → Option (List ℕ) → ℕ → Served → Served → Type 0
IsPlayed fixture minutes rows before after status old new = PlaysOn fixture 1 (bare_sheet minutes) rows 0 before after status old new
