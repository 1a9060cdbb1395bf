-- The commands that ask requests of a host: what each asks, and from which books.
use Rattle.std.specs.Prelude.{◌≡◌, ◌⊎◌, ℕ, List, Option, Some, None, codes, ⊤}
use Rattle.fpl_base.specs.Keeping.{Map}
use Rattle.fpl_base.specs.Moments.{Moments}
use Rattle.command_line.specs.declared.words.What.{What}
use Rattle.command_line.specs.declared.words.What.TheVariants as what
use Rattle.season_book.specs.declared.request.View.{View}
use Rattle.season_book.specs.declared.request.View.TheVariants as view
use Rattle.request_handler.specs.Replying.{Served}
use Rattle.local_requests.specs.Printing.{IsReported}
use Rattle.season_generator.specs.Generating.{IsGenerated}
use Rattle.fpl_dreaming.specs.Dreaming.{IsDreamed}
use Rattle.fpl_events.specs.Rows.{ExplainsRows, HasEventRows}
use Rattle.fpl_events.specs.declared.row.EventRow.{EventRow}
use Rattle.fpl_reports.specs.declared.rows.RowFault.{RowFault}
use Rattle.fpl_events.specs.Playing.{IsPlayed}
use Rattle.local_requests.specs.RowFaults.{TellsRowFault}
use Rattle.fpl_drafting.specs.Rows.{ExplainsRows as ExplainsDraft, HasDraftRows}
use Rattle.fpl_drafting.specs.declared.row.DraftRow.{DraftRow}
use Rattle.fpl_drafting.specs.Drafting.{IsDrafted}
use Rattle.fpl_run.specs.Keeping.{IsUnopened, Runs}

-- what is asked leads from each book to one: the keeper is not read again on the way
abbrev pub Through : (Served → Served → Type 0) → Option Served → Option Served → Type 0
Through how None None = ⊤
Through how (Some old) (Some new) = how old new
Through how old new = ⊥

-- a host was opened, and so much was asked of it, from the books that the keeper's records tell; or it was not opened, and no
-- moment was told
abbrev pub RunsThrough : {K : Type 0} → (K → Type 0) → (K → Type 0) → (K → Map → Type 0) → (K → Map → Type 0) → (K → ℕ) → K → K → List ℕ → Option Moments → Option Moments
    → Option (List ℕ) → Option (List ℕ) → ℕ → (Served → Served → Type 0) → Type 0
RunsThrough tells serves holds passes faults old new key moments later before after status how =
    Runs tells serves holds passes old new key moments later (faults old) (faults new) (Through how) how
    ⊎ ((later ≡ moments) × IsUnopened tells serves holds passes faults old new before after status)

-- the view of a report
abbrev pub view_of : What → View
view_of what.Season = view.Season
view_of (what.Table id) = view.League id
view_of (what.Fixture id) = view.Fixture id
view_of (what.Entry id gameweek) = view.EntryGameweek id gameweek

-- a run of `report`: the operator asked a view, and its report was written
abbrev pub Reports : {K : Type 0} → (K → Type 0) → (K → Type 0) → (K → Map → Type 0) → (K → Map → Type 0) → (K → ℕ) → K → K → List ℕ → What → Option Moments → Option Moments
    → Option (List ℕ) → Option (List ℕ) → ℕ → Type 0
Reports tells serves holds passes faults old new key shown moments later before after status =
    RunsThrough tells serves holds passes faults old new key moments later before after status (IsReported (view_of shown) before after status)

-- a run of `dream`: the operator asked for the players of a gameweek, and the team of the week was written
abbrev pub Dreams : {K : Type 0} → (K → Type 0) → (K → Type 0) → (K → Map → Type 0) → (K → Map → Type 0) → (K → ℕ) → K → K → List ℕ → ℕ → Option Moments → Option Moments
    → Option (List ℕ) → Option (List ℕ) → ℕ → Type 0
Dreams tells serves holds passes faults old new key gameweek moments later before after status =
    RunsThrough tells serves holds passes faults old new key moments later before after status (IsDreamed gameweek before after status)

-- a run of `events`: a row of the bytes is wrong, which is told, and nothing was opened; or they have rows, and these were done
abbrev pub Plays : {K : Type 0} → (K → Type 0) → (K → Type 0) → (K → Map → Type 0) → (K → Map → Type 0) → (K → ℕ) → K → K → List ℕ → ℕ → ℕ → List ℕ
    → Option Moments → Option Moments → Option (List ℕ) → Option (List ℕ) → ℕ → Type 0
Plays tells serves holds passes faults old new key fixture minutes bytes moments later before after status =
    ((why : RowFault) × ExplainsRows minutes bytes why × TellsRowFault why status before after × (new ≡ old) × (later ≡ moments))
    ⊎ ((rows : List EventRow) × HasEventRows minutes bytes rows
    × RunsThrough tells serves holds passes faults old new key moments later before after status (IsPlayed fixture minutes rows before after status))

-- a run of `draft` for so many members: a row of the bytes is wrong, which is told, and nothing was opened; or they have rows, and
-- these were done
abbrev pub Drafts : {K : Type 0} → (K → Type 0) → (K → Type 0) → (K → Map → Type 0) → (K → Map → Type 0) → (K → ℕ) → K → K → List ℕ → ℕ → List ℕ
    → Option Moments → Option Moments → Option (List ℕ) → Option (List ℕ) → ℕ → Type 0
Drafts tells serves holds passes faults old new key members bytes moments later before after status =
    ((why : RowFault) × ExplainsDraft members bytes why × TellsRowFault why status before after × (new ≡ old) × (later ≡ moments))
    ⊎ ((rows : List DraftRow) × HasDraftRows members bytes rows
    × RunsThrough tells serves holds passes faults old new key moments later before after status (IsDrafted members rows before after status))

-- the operator of a made-up season has this key
abbrev pub made_up_key : List ℕ
made_up_key = codes "operator1"

-- a run of `generate`: the made-up season of a seed was asked, at its own moments
abbrev pub Generates : {K : Type 0} → (K → Type 0) → (K → Type 0) → (K → Map → Type 0) → (K → Map → Type 0) → (K → ℕ) → K → K → ℕ → Option Moments
    → Option (List ℕ) → Option (List ℕ) → ℕ → Type 0
Generates tells serves holds passes faults old new seed moments before after status =
    RunsThrough tells serves holds passes faults old new made_up_key moments moments before after status (IsGenerated seed before after status)
