-- Requests that are asked of a host, from the book that was opened.
use Rattle.std.proofs.Common.{◌≡◌, ◌∙◌, ℕ, List, Option, Some, None}
use Rattle.std.specs.Prelude.{false}
use Rattle.fpl_base.specs.Keeping.{Map}
use Rattle.season_keeping.specs.Opening.{Opens}
use Rattle.request_handler.specs.Kept.{IsStoodByRows, IsStoodByStops, Kept, Leads, LeadsAll}
use Rattle.request_handler.specs.Replying.{Served}
use Rattle.fpl_run.specs.Keeping.{Runs}
use Rattle.fpl_run.specs.Requests.{Through}
use Rattle.fpl_run.proofs.CourseLemmas.{runs_of}

module _ (K : Type 0) (tells serves : K → Type 0) (holds passes : K → Map → Type 0) where
  module _ (first last : Kept K) (how : Served → Served → Type 0) (leads : Leads tells serves holds passes first last how) where
    through_rows : (state : Option Served) → IsStoodByRows first state → (behind : Option Served) × IsStoodByRows last behind × Through how state behind
    through_rows None stands = (None, leads.reread ∙ stands, tt)
    through_rows (Some served) stands = let led = leads.by_rows served stands in (Some led.0, led.1, led.2)

    through_stops : tells last.keeper → (state : Option Served) → IsStoodByStops holds passes first state
        → (behind : Option Served) × IsStoodByStops holds passes last behind × Through how state behind
    through_stops tell None stands = (None, leads.reread ∙ stands, tt)
    through_stops tell (Some served) stands = let led = leads.by_stops tell served stands in (Some led.0, led.1, led.2)

    through_all : LeadsAll tells serves holds passes first last (Through how) how
    through_all = record {
      by_rows = λ state stands. through_rows state stands;
      by_stops = λ tell state stands. through_stops tell state stands;
      by_records = λ tell serve served stands. leads.by_records tell serve served stands;
      told = leads.told;
      served = leads.served;
    }

  pub asked_runs : (old : K) (first last : Kept K) (key : List ℕ) (failed : ℕ) → Opens tells holds passes old first.keeper first.host
      → first.host.rows.operator ≡ key → first.host.reread ≡ false → first.failed ≡ failed
      → (how : Served → Served → Type 0) → Leads tells serves holds passes first last how
      → Runs tells serves holds passes old last.keeper key first.moments last.moments failed last.failed (Through how) how
  asked_runs old first last key failed opens operator reread count how leads =
      runs_of K tells serves holds passes old first last key failed opens operator reread count (Through how) how (through_all first last how leads)
