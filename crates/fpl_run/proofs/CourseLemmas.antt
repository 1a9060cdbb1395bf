-- Sessions over a keeper, by the three views of it.
use Rattle.std.proofs.Common.{◌≡◌, ℕ, List, [], Option, Some, None, IfSome, inl, refl, sym}
use Rattle.std.specs.Prelude.{⊤, false}
use Rattle.fpl_base.specs.Keeping.{Map}
use Rattle.fpl_http.specs.Stream.{Request}
use Rattle.fpl_http.specs.Lifts.{LiftsWhile, SessionsLift}
use Rattle.fpl_http.specs.Replies.{Speaks}
use Rattle.fpl_http.specs.Sessions.{SessionOf}
use Rattle.fpl_http.specs.Splits.{Both, SessionsSplit}
use Rattle.fpl_http.specs.declared.ending.Ending.{Ending}
use Rattle.season_book.specs.Book.{Book, empty_book}
use Rattle.season_running.specs.Standing.{StandsIn}
use Rattle.season_keeping.specs.Opening.{Opens}
use Rattle.request_handler.specs.Kept.{Agrees, IsStoodByRows, IsStoodByStops, Kept, LeadsAll, StandsByRecords, StandsByRows, StandsByStops}
use Rattle.request_handler.specs.Answered.{SessionsAnswer}
use Rattle.request_handler.specs.Looks.{Counted, CountsLooks, RunsReadFew, SessionReadsFew}
use Rattle.request_handler.specs.Replying.{IsLeftAt, IsReplyUntil, Served}
use Rattle.request_handler.specs.Whole.{IsKeptReply}
use Rattle.fpl_run.specs.Keeping.{IsBehind, Runs, opened}
use Rattle.fpl_run.specs.Pipe.{IsSession}

-- what the messages count that a session answered
pub session_reads_few : (K : Type 0) → SessionsAnswer (CountsLooks {K = K}) → RunsReadFew K → (first last : Counted K) (left now before after : Option (List ℕ)) (ending : Ending)
    → SessionOf (Speaks CountsLooks) left now first last before after ending → SessionReadsFew left now first last
session_reads_few K answer few first last left now before after ending session =
    let told = answer left now first last before after ending session in
    (told.got, told.taken, (told.messages, told.leads, few first last told.messages told.texts told.run))

module _ (K : Type 0) (tells serves : K → Type 0) (holds passes : K → Map → Type 0) where
  -- ---- one thing after another

  pub leads_all_then : (first mid last : Kept K) (one two both : Option Served → Option Served → Type 0) (once twice twofold : Served → Served → Type 0)
      → ((s m b : Option Served) → one s m → two m b → both s b) → ((s m b : Served) → once s m → twice m b → twofold s b)
      → LeadsAll tells serves holds passes first mid one once → LeadsAll tells serves holds passes mid last two twice → LeadsAll tells serves holds passes first last both twofold
  leads_all_then first mid last one two both once twice twofold join joins here there = record {
    by_rows = λ state stands.
        let a = here.by_rows state stands in
        let b = there.by_rows a.0 a.1 in
        (b.0, b.1, join state a.0 b.0 a.2 b.2);
    by_stops = λ tell state stands.
        let a = here.by_stops (there.told tell) state stands in
        let b = there.by_stops tell a.0 a.1 in
        (b.0, b.1, join state a.0 b.0 a.2 b.2);
    by_records = λ tell serve served stands.
        let a = here.by_records (there.told tell) (there.served tell serve) served stands in
        let b = there.by_records tell serve a.0 a.1 in
        (b.0, b.1, joins served a.0 b.0 a.2 b.2);
    told = λ tell. here.told (there.told tell);
    served = λ tell serve. here.served (there.told tell) (there.served tell serve);
  }

  pub leads_all_on : (first last : Kept K) (one two : Option Served → Option Served → Type 0) (once twice : Served → Served → Type 0)
      → ((s b : Option Served) → one s b → two s b) → ((s b : Served) → once s b → twice s b)
      → LeadsAll tells serves holds passes first last one once → LeadsAll tells serves holds passes first last two twice
  leads_all_on first last one two once twice on ons leads = record {
    by_rows = λ state stands. let a = leads.by_rows state stands in (a.0, a.1, on state a.0 a.2);
    by_stops = λ tell state stands. let a = leads.by_stops tell state stands in (a.0, a.1, on state a.0 a.2);
    by_records = λ tell serve served stands. let a = leads.by_records tell serve served stands in (a.0, a.1, ons served a.0 a.2);
    told = leads.told;
    served = leads.served;
  }

  -- ---- a session of the handler

  abbrev Rows : Counted K → Request → ℕ × List ℕ → Counted K → Type 0
  Rows = LiftsWhile (λ (_ : Counted K). ⊤) (λ (now : Counted K). IsStoodByRows now.kept) IsReplyUntil

  abbrev Stops : Counted K → Request → ℕ × List ℕ → Counted K → Type 0
  Stops = LiftsWhile (λ (now : Counted K). tells now.kept.keeper) (λ (now : Counted K). IsStoodByStops holds passes now.kept) IsReplyUntil

  abbrev Records : Counted K → Request → ℕ × List ℕ → Counted K → Type 0
  Records = LiftsWhile (λ (now : Counted K). tells now.kept.keeper × serves now.kept.keeper) (λ (now : Counted K). StandsByRecords holds passes now.kept) IsKeptReply

  pub session_leads : SessionsSplit CountsLooks (Both Rows (Both Stops Records)) → SessionsSplit Rows (Both Stops Records) → SessionsSplit Stops Records
      → SessionsLift (λ (_ : Counted K). ⊤) (λ (now : Counted K). IsStoodByRows now.kept) IsReplyUntil
      → SessionsLift (λ (now : Counted K). tells now.kept.keeper) (λ (now : Counted K). IsStoodByStops holds passes now.kept) IsReplyUntil
      → SessionsLift (λ (now : Counted K). tells now.kept.keeper × serves now.kept.keeper) (λ (now : Counted K). StandsByRecords holds passes now.kept) IsKeptReply
      → (first last : Counted K) (left now before after : Option (List ℕ)) (ending : Ending)
      → SessionOf (Speaks (Both CountsLooks (Both Rows (Both Stops Records)))) left now first last before after ending
      → LeadsAll tells serves holds passes first.kept last.kept (IsSession IsReplyUntil left now before after ending) (IsSession IsKeptReply left now before after ending)
  session_leads uncounted apart asunder by_rows by_stops by_records first last left now before after ending session =
      let all = (uncounted left now first last before after ending session).1 in
      let one = apart left now first last before after ending all in
      let two = asunder left now first last before after ending one.1 in
      record {
        by_rows = λ state stands. let a = (by_rows left now first last before after ending state one.0 tt).1 stands in (a.0, a.1, (a.2, a.3));
        by_stops = λ tell state stands. let a = (by_stops left now first last before after ending state two.0 tell).1 stands in (a.0, a.1, (a.2, a.3));
        by_records = λ tell serve served stands. let a = (by_records left now first last before after ending served two.1 (tell, serve)).1 stands in (a.0, a.1, (a.2, a.3));
        told = λ tell. (by_stops left now first last before after ending None two.0 tell).0;
        served = λ tell serve. (by_records left now first last before after ending (opened [] empty_book None 0) two.1 (tell, serve)).0.1;
      }

  -- and what it counts
  pub session_counts : SessionsSplit CountsLooks (Both Rows (Both Stops Records)) → (first last : Counted K) (left now before after : Option (List ℕ)) (ending : Ending)
      → SessionOf (Speaks (Both CountsLooks (Both Rows (Both Stops Records)))) left now first last before after ending
      → SessionOf (Speaks CountsLooks) left now first last before after ending
  session_counts uncounted first last left now before after ending session = (uncounted left now first last before after ending session).0

  -- ---- from the book that was opened

  module _ (old : K) (first last : Kept K) (key : List ℕ) (failed : ℕ) (opens : Opens tells holds passes old first.keeper first.host) (operator : first.host.rows.operator ≡ key)
      (reread : first.host.reread ≡ false) (count : first.failed ≡ failed) where
    abbrev start : Book → Served
    start book = opened key book first.moments failed

    agrees_start : (book : Book) → Agrees first (start book)
    agrees_start book = record { operator = sym operator; stale = sym opens.fresh; moments = refl; failed = sym count }

    start_by_rows : (book : Book) → StandsIn first.host.rows book → StandsByRows first (start book)
    start_by_rows book stands = record { agrees = agrees_start book; first = reread; rows = λ _. stands }

    behind_rows : (behind : Option Served) → IsStoodByRows last behind → IfSome behind (IsBehind last.moments last.failed)
    behind_rows None stands = tt
    behind_rows (Some served) stands = (stands.agrees.moments, stands.agrees.failed)

    behind_stops : (behind : Option Served) → IsStoodByStops holds passes last behind
        → IfSome behind (λ served. IsBehind last.moments last.failed served × ((x : Map) → passes last.keeper x → IsLeftAt served x))
    behind_stops None stands = tt
    behind_stops (Some served) stands = ((stands.by_rows.agrees.moments, stands.by_rows.agrees.failed), stands.left)

    pub runs_of : (until : Option Served → Option Served → Type 0) (whole : Served → Served → Type 0) → LeadsAll tells serves holds passes first last until whole
        → Runs tells serves holds passes old last.keeper key first.moments last.moments failed last.failed until whole
    runs_of until whole leads = record {
      rows = first.host.rows;
      start = first.keeper;
      loaded = opens.loaded;
      by_rows = λ book stands.
          let a = leads.by_rows (Some (start book)) (start_by_rows book stands) in
          (a.0, behind_rows a.0 a.1, a.2);
      by_stops = λ tell book keepable held.
          let backs = opens.backs (leads.told tell) book keepable held in
          let stood : StandsByStops holds passes first (start book) = record { by_rows = start_by_rows book (backs.stands opens.fresh); backs = λ _. backs; left = λ x passed. inl (backs.alone opens.fresh x passed) } in
          let a = leads.by_stops tell (Some (start book)) stood in
          (a.0, behind_stops a.0 a.1, a.2);
      by_records = λ tell serve book keepable held.
          let backs = opens.backs (leads.told tell) book keepable held in
          let stood : StandsByRecords holds passes first (start book) = record { agrees = agrees_start book; backs = backs; left = λ x passed. inl (backs.alone opens.fresh x passed) } in
          let a = leads.by_records tell serve (start book) stood in
          (a.0, (a.1.agrees.moments, a.1.agrees.failed), a.1.backs.held, a.1.left, a.2);
    }
