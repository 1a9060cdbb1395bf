-- From a lawful book no reply of a run is 500, and its last book is lawful.
use Rattle.std.proofs.Common.{ℕ, zero, suc, List, Option, inl, inr, sym, subst}
use Rattle.fpl_base.specs.Keeping.{Map}
use Rattle.fpl_base.specs.Moments.{Moments}
use Rattle.season_book.specs.Book.{Book}
use Rattle.lawful_books.specs.Books.{IsLawful}
use Rattle.lawful_books.specs.Judged.{LawfulBooksAreWhole}
use Rattle.season_opening.specs.Opening.{IsKeepable}
use Rattle.season_opening.specs.declared.loading.OpenFault.{OpenFault}
use Rattle.season_opening.specs.declared.loading.OpenFault.TheVariants as fault
use Rattle.season_records.specs.Records.{records}
use Rattle.season_keeping.specs.Opening.{Withholds}
use Rattle.fpl_http.specs.declared.ending.Ending.{Ending}
use Rattle.request_handler.specs.Replying.{Served}
use Rattle.request_handler.specs.Whole.{IsKeptReply, IsWhole, IsWholeReply, SessionsAreWhole}
use Rattle.fpl_run.specs.Keeping.{IsUnopened, Runs, TellsFault, opened}
use Rattle.fpl_run.specs.Pipe.{IsSession}
use Rattle.fpl_run.specs.Serve.{DoorState, IsVisit, ServesOn}
use Rattle.fpl_run.specs.Whole.{EndsWhole, IsUnmade, PipesAreWhole, ServesAreWhole}

-- Sessions, and connections.

module _ (sessions : SessionsAreWhole) where
  session_whole : (left now before after : Option (List ℕ)) (ending : Ending) (old new : Served) → IsWhole old
      → IsSession IsKeptReply left now before after ending old new → IsSession IsWholeReply left now before after ending old new × IsWhole new
  session_whole left now before after ending old new whole session =
      let told = sessions left now old new before after ending whole session.0 in
      ((told.0, told.1), told.2)

  visit_whole : (before after : DoorState) (old new : Served) (ending : Ending) → IsWhole old
      → IsVisit IsKeptReply before after old new ending → IsVisit IsWholeReply before after old new ending × IsWhole new
  visit_whole before after old new ending whole visit =
      let told = session_whole visit.left visit.back.left visit.fresh visit.back.taken ending old new whole visit.session in (
        record {
          left = visit.left;
          fresh = visit.fresh;
          back = visit.back;
          opens = visit.opens;
          gives = visit.gives;
          faults = visit.faults;
          session = told.0;
          exact = visit.exact;
          read = visit.read;
          write = visit.write;
        },
        told.1,
      )

  serving_whole : (count : ℕ) (before after : DoorState) (status : ℕ) (old new : Served) → IsWhole old
      → ServesOn IsKeptReply count before after status old new → ServesOn IsWholeReply count before after status old new × IsWhole new
  serving_whole zero before after status old new whole (is, stays, same) = ((is, stays, same), subst IsWhole (sym same) whole)
  serving_whole (suc count) before after status old new whole (inl (is, fails, same)) = (inl (is, fails, same), subst IsWhole (sym same) whole)
  serving_whole (suc count) before after status old new whole (inr (inl (is, visit))) =
      let told = visit_whole before after old new _ whole visit in
      (inr (inl (is, told.0)), told.1)
  serving_whole (suc count) before after status old new whole (inr (inr (ending, between, mid, fits, visit, rest))) =
      let told = visit_whole before between old mid ending whole visit in
      let on = serving_whole count between after status mid new told.1 rest in
      (inr (inr (ending, between, mid, fits, told.0, on.0)), on.1)

  -- Runs.

  module _ (K : Type 0) (tells serves : K → Type 0) (holds passes : K → Map → Type 0) (faults : K → ℕ) (old new : K)
      (loads : LawfulBooksAreWhole (tells new) (holds old) (holds new) (passes new)) (book : Book)
      (tell : tells new) (serve : serves new) (keepable : IsKeepable book) (lawful : IsLawful book) (held : holds old (records book)) where
    run_whole : (key : List ℕ) (moments later : Option Moments) (until : Option Served → Option Served → Type 0) (one other : Served → Served → Type 0)
        → ((from behind : Served) → IsWhole from → one from behind → other from behind × IsWhole behind)
        → Runs tells serves holds passes old new key moments later (faults old) (faults new) until one
        → EndsWhole holds new later (faults new) (other (opened key book moments (faults old)))
    run_whole key moments later until one other each runs =
        let (behind, left, holds_on, stops, led) = runs.by_records tell serve book keepable held in
        let told = each (opened key book moments (faults old)) behind (record { keepable = keepable; lawful = lawful }) led in
        record { behind = behind; left = left; held = holds_on; whole = told.1; led = told.0 }

    unmade : (before after : Option (List ℕ)) (status : ℕ) → IsUnopened tells serves holds passes faults old new before after status → IsUnmade before after status
    unmade before after status (why, withheld, holds_on, told) = by why withheld told
      where
        by : (w : OpenFault) → Withholds tells holds passes faults old new w → TellsFault w status before after → IsUnmade before after status
        by fault.Keeper withheld told = (inl told.0, told.1)
        by fault.Memory withheld told = (inr told.0, told.1)
        by (fault.Damaged key) withheld told = absurd (loads book key tell keepable lawful held withheld)

pub pipes_are_whole : SessionsAreWhole → (K : Type 0) (tells serves : K → Type 0) (holds passes : K → Map → Type 0) (faults : K → ℕ)
    → ((old new : K) → LawfulBooksAreWhole (tells new) (holds old) (holds new) (passes new)) → PipesAreWhole tells serves holds passes faults
pipes_are_whole sessions K tells serves holds passes faults loads old new key left now moments later before after status first last book tell serve keepable lawful held (inl piped) =
    inl (
      piped.ending,
      piped.is_status,
      run_whole sessions K tells serves holds passes faults old new (loads old new) book tell serve keepable lawful held key moments later _ _
          (IsSession IsWholeReply left now before after piped.ending)
          (λ from behind whole session. session_whole sessions left now before after piped.ending from behind whole session) piped.runs,
    )
pipes_are_whole sessions K tells serves holds passes faults loads old new key left now moments later before after status first last book tell serve keepable lawful held (inr (same, waits, unopened)) =
    inr (same, waits, unopened.2.kept tell serve (records book) held, unmade sessions K tells serves holds passes faults old new (loads old new) book tell serve keepable lawful held before after status unopened)

pub serves_are_whole : SessionsAreWhole → (K : Type 0) (tells serves : K → Type 0) (holds passes : K → Map → Type 0) (faults : K → ℕ)
    → ((old new : K) → LawfulBooksAreWhole (tells new) (holds old) (holds new) (passes new)) → ServesAreWhole tells serves holds passes faults
serves_are_whole sessions K tells serves holds passes faults loads old new key count before after moments later taken takes status first last book tell serve keepable lawful held (inl (runs, quiet)) =
    inl (
      run_whole sessions K tells serves holds passes faults old new (loads old new) book tell serve keepable lawful held key moments later _ _
          (ServesOn IsWholeReply count before after status)
          (λ from behind whole on. serving_whole sessions count before after status from behind whole on) runs,
      quiet,
    )
serves_are_whole sessions K tells serves holds passes faults loads old new key count before after moments later taken takes status first last book tell serve keepable lawful held (inr (same, waits, unopened)) =
    inr (same, waits, unopened.2.kept tell serve (records book) held, unmade sessions K tells serves holds passes faults old new (loads old new) book tell serve keepable lawful held taken takes status unopened)
