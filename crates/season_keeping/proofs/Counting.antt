-- The reads of a request behind a moment that locks nothing, and what a moment that locks gameweeks evaluates.
use Rattle.std.proofs.Common.{◌≡◌, ◌∙◌, ◌≤◌, ◌+◌, ◌*◌, ℕ, List, Option, ap, subst, sym}
use Rattle.fpl_base.specs.declared.kinds.Caller.{Caller}
use Rattle.season_book.specs.Book.{Book}
use Rattle.season_book.specs.declared.request.Request.{Request}
use Rattle.season_book.specs.declared.request.Request.TheVariants as request
use Rattle.season_cells.specs.Kept.{CellRows}
use Rattle.season_host.specs.Cells.{AreCorrected, IsCheapCommand, IsCheapNow, lines_in, running_in}
use Rattle.season_running.specs.Standing.{HostRows, Running, passed}
use Rattle.season_keeping.specs.Answering.{CountsFew, IsCheapRequest, LeavesAll, MayRest, PassesAlone, WouldAct}
use Rattle.season_keeping.specs.Housed.{Housed}

-- a request that was cheap in the season that runs behind the moment was cheap in the one before, which is the same
pub cheap_from : (first before after : HostRows) (asked : Request) (start old new : ℕ) → running_in before ≡ running_in first → old ≡ start
    → IsCheapRequest before after asked old new → IsCheapRequest first after asked start new
cheap_from first before after (request.Command number command) start old new same still cheap =
    subst (λ k. IsCheapCommand first after command k new) still
    (subst (λ (o : Option Running). IsCheapNow o (running_in after) (old + 2 * lines_in o command + 8) new) same cheap)
cheap_from first before after (request.View view) start old new same still cheap = tt

pub few_from : (asked : Request) (start old new : ℕ) → old ≡ start → CountsFew asked old new → CountsFew asked start new
few_from (request.Command number command) start old new still few = subst (λ k. new ≤ k + 8) still few
few_from (request.View view) start old new still few = tt

-- what would act does not rest
pub acts_never_rest : {X : Type 0} (operator : List ℕ) (book : Book) (caller : Caller) (now : ℕ) (asked : Request)
    → WouldAct operator book caller now asked → MayRest operator book caller now asked → X
acts_never_rest operator book caller now asked act rest = absurd (act rest.0 rest.1 rest.2)

-- a view that left all as it was behind the moment left all as it was before it
pub leaves_from : (K : Type 0) (asked : Request) (first before after : K) (old mid new : Housed) → mid ≡ old → before ≡ first
    → LeavesAll asked before after mid new → LeavesAll asked first after old new
leaves_from K (request.Command number command) first before after old mid new host keeper leaves = tt
leaves_from K (request.View view) first before after old mid new host keeper leaves = (leaves.0 ∙ host, leaves.1 ∙ keeper)

-- a view that left all as it was behind the moment left the rows with the moment's locks
pub passes_from : (K : Type 0) (asked : Request) (now : ℕ) (before after : K) (old : HostRows) (mid new : Housed) → mid.rows ≡ passed now old
    → LeavesAll asked before after mid new → PassesAlone asked now old new.rows
passes_from K (request.Command number command) now before after old mid new rows leaves = tt
passes_from K (request.View view) now before after old mid new rows leaves = ap (λ (h : Housed). h.rows) leaves.0 ∙ rows

-- and so did one for which the locks went no further
pub passes_as : (asked : Request) (now : ℕ) (old new : HostRows) → new ≡ passed now old → PassesAlone asked now old new
passes_as (request.Command number command) now old new rows = tt
passes_as (request.View view) now old new rows = rows

-- what a moment corrected and counted, by the rows and the cells that a host shows
module _ (inside old : Housed) (mid new : HostRows) where
  pub corrected_at : (mid_cells new_cells : Option CellRows) → inside ≡ old → new ≡ mid → new_cells ≡ mid_cells
      → AreCorrected inside.rows mid inside.cells mid_cells → AreCorrected old.rows new old.cells new_cells
  corrected_at mid_cells new_cells is rows cells corrected =
      subst (λ (h : Housed). AreCorrected h.rows new h.cells new_cells) is
      (subst (λ (r : HostRows). AreCorrected inside.rows r inside.cells new_cells) (sym rows)
      (subst (λ (c : Option CellRows). AreCorrected inside.rows mid inside.cells c) (sym cells) corrected))

  pub cheap_at : (first last : ℕ) → inside ≡ old → new ≡ mid
      → IsCheapNow (running_in inside.rows) (running_in mid) first last → IsCheapNow (running_in old.rows) (running_in new) first last
  cheap_at first last is rows cheap =
      subst (λ (h : Housed). IsCheapNow (running_in h.rows) (running_in new) first last) is
      (subst (λ (r : HostRows). IsCheapNow (running_in inside.rows) (running_in r) first last) (sym rows) cheap)
