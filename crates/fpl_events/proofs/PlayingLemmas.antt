-- Rows that are done one after another.
use Rattle.std.proofs.Common.{◌≡◌, ◌+◌, ◌-◌, ◌≤◌, ℕ, List, [], ◌∷◌, length, Option, inl, inr, arith, refl, sym, subst}
use Rattle.std.specs.Prelude.{Ok, Err, Result}
use Rattle.std.proofs.lemmas.List.Edits.{length-insert, length-remove}
use Rattle.fpl_base.specs.Keeping.{Map}
use Rattle.fpl_events.specs.declared.row.EventRow.{EventRow}
use Rattle.fpl_events.specs.declared.row.EventRow.TheVariants as row
use Rattle.match_events.specs.Refusals.{IsJudged}
use Rattle.match_events.specs.Sheets.{Sheet, insert_refusal, remove_refusal, with_event, without_event}
use Rattle.match_events.specs.declared.event.Event.{Event}
use Rattle.match_events.specs.declared.refusal.EventRefused.{EventRefused}
use Rattle.match_events.specs.declared.refusal.EventRefused.TheVariants as refused
use Rattle.match_events.specs.declared.refusal.EventRule.{EventRule}
use Rattle.request_handler.specs.Replying.{Served}
use Rattle.request_handler.specs.Kept.{Kept, Leads}
use Rattle.request_handler.proofs.KeptLemmas.{leads_on, leads_same}
use Rattle.local_requests.proofs.AskingLemmas.{leads_then}
use Rattle.local_requests.specs.Printing.{PrintsOne}
use Rattle.fpl_events.specs.Playing.{DoesRow, Edits, EndsBy, IsPlayed, PlaysOn, bare_sheet}
use Rattle.fpl_events.specs.Sending.{SendsChanged}
use Rattle.fpl_events.specs.Telling.{sent_text}

-- an edit that was refused ends the run
pub refused_as : (number : ℕ) (broken : Option EventRule) (edited behind : Sheet) (why : EventRefused) (before after : Option (List ℕ)) (status : ℕ)
    → IsJudged broken (Err why) → EndsBy number why status before after → Edits number broken edited behind before after (Err status)
refused_as number broken edited behind (refused.Rule rule) before after status judged ends = inr (refused.Rule rule, judged, status, refl, ends)
refused_as number broken edited behind refused.Memory before after status judged ends = inr (refused.Memory, tt, status, refl, ends)

-- one event more, or fewer
pub one_more : (events : List Event) (place : ℕ) (event : Event) → 1 ≤ place → place ≤ length events + 1 → length (with_event events place event) ≡ length events + 1
one_more events place event least most = omega (arith, length-insert events (place - 1) event (omega arith))

pub one_fewer : (events : List Event) (place : ℕ) → 1 ≤ place → place ≤ length events → length (without_event events place) ≡ length events - 1
one_fewer events place least most = omega (arith, length-remove events (place - 1) (omega arith))

-- some rows were done, and these are left, the first of them with this number: whatever becomes of these is the end of all
abbrev pub IsGoing : ℕ → ℕ → List EventRow → ℕ → Sheet → List EventRow → ℕ → Option (List ℕ) → Served → Served → Type 0
IsGoing fixture minutes all number sheet rest sent before old mid =
    (after : Option (List ℕ)) (status : ℕ) (new : Served) → PlaysOn fixture number sheet rest sent before after status mid new → IsPlayed fixture minutes all before after status old new

module _ (K : Type 0) (tells serves : K → Type 0) (holds passes : K → Map → Type 0) where
  -- a row that edits the events asks nothing
  pub row_inserts : (fixture number place : ℕ) (event : Event) (one : EventRow) (sheet behind : Sheet) (before after : Option (List ℕ)) (gave : Result ℕ ℕ) (kept : Kept K) → one ≡ row.Insert place event
      → Edits number (insert_refusal sheet.events place event) (record sheet { events = with_event sheet.events place event }) behind before after gave
      → Leads tells serves holds passes kept kept (DoesRow fixture number one sheet behind before after gave)
  row_inserts fixture number place event one sheet behind before after gave kept is edits =
      leads_same K tells serves holds passes kept (DoesRow fixture number one sheet behind before after gave)
      (λ served. subst (λ (r : EventRow). DoesRow fixture number r sheet behind before after gave served served) (sym is) (refl, edits))

  pub row_removes : (fixture number place : ℕ) (one : EventRow) (sheet behind : Sheet) (before after : Option (List ℕ)) (gave : Result ℕ ℕ) (kept : Kept K) → one ≡ row.Remove place
      → Edits number (remove_refusal sheet.events place) (record sheet { events = without_event sheet.events place }) behind before after gave
      → Leads tells serves holds passes kept kept (DoesRow fixture number one sheet behind before after gave)
  row_removes fixture number place one sheet behind before after gave kept is edits =
      leads_same K tells serves holds passes kept (DoesRow fixture number one sheet behind before after gave)
      (λ served. subst (λ (r : EventRow). DoesRow fixture number r sheet behind before after gave served served) (sym is) (refl, edits))

  pub row_sends : (fixture number : ℕ) (one : EventRow) (sheet behind : Sheet) (before after : Option (List ℕ)) (gave : Result ℕ ℕ) (first last : Kept K) → one ≡ row.Send
      → Leads tells serves holds passes first last (SendsChanged fixture sheet behind before after gave)
      → Leads tells serves holds passes first last (DoesRow fixture number one sheet behind before after gave)
  row_sends fixture number one sheet behind before after gave first last is =
      leads_on K tells serves holds passes first last (SendsChanged fixture sheet behind before after gave) (DoesRow fixture number one sheet behind before after gave)
      (λ s b sent. subst (λ (r : EventRow). DoesRow fixture number r sheet behind before after gave s b) (sym is) sent)

  -- ---- rows one after another

  pub going_start : (fixture minutes : ℕ) (all rest : List EventRow) (sheet : Sheet) (before : Option (List ℕ)) (kept : Kept K) → rest ≡ all → sheet ≡ bare_sheet minutes
      → Leads tells serves holds passes kept kept (IsGoing fixture minutes all 1 sheet rest 0 before)
  going_start fixture minutes all rest sheet before kept is bare =
      leads_same K tells serves holds passes kept (IsGoing fixture minutes all 1 sheet rest 0 before)
      (λ served after status new on. subst (λ (xs : List EventRow). PlaysOn fixture 1 (bare_sheet minutes) xs 0 before after status served new) is
      (subst (λ (s : Sheet). PlaysOn fixture 1 s rest 0 before after status served new) bare on))

  pub going_more : (fixture minutes number sent more : ℕ) (all rest rows : List EventRow) (one : EventRow) (sheet behind : Sheet) (before here there : Option (List ℕ)) (first mid last : Kept K)
      → rest ≡ one ∷ rows → here ≡ before → there ≡ before
      → Leads tells serves holds passes first mid (IsGoing fixture minutes all number sheet rest sent before)
      → Leads tells serves holds passes mid last (DoesRow fixture number one sheet behind here there (Ok more))
      → Leads tells serves holds passes first last (IsGoing fixture minutes all (number + 1) behind rows (sent + more) before)
  going_more fixture minutes number sent more all rest rows one sheet behind before here there first mid last is same still =
      leads_then K tells serves holds passes first mid last
      (IsGoing fixture minutes all number sheet rest sent before) (DoesRow fixture number one sheet behind here there (Ok more))
      (IsGoing fixture minutes all (number + 1) behind rows (sent + more) before)
      (λ s m b on done after status new rows_on. on after status new
      (subst (λ (xs : List EventRow). PlaysOn fixture number sheet xs sent before after status m new) (sym is)
      (inr (
        more,
        behind,
        b,
        subst (λ (x : Option (List ℕ)). DoesRow fixture number one sheet behind x before (Ok more) m b) same
            (subst (λ (x : Option (List ℕ)). DoesRow fixture number one sheet behind here x (Ok more) m b) still done),
        rows_on,
      ))))

  pub going_stop : (fixture minutes number sent status : ℕ) (all rest rows : List EventRow) (one : EventRow) (sheet behind : Sheet) (before here after : Option (List ℕ)) (first mid last : Kept K)
      → rest ≡ one ∷ rows → here ≡ before
      → Leads tells serves holds passes first mid (IsGoing fixture minutes all number sheet rest sent before)
      → Leads tells serves holds passes mid last (DoesRow fixture number one sheet behind here after (Err status))
      → Leads tells serves holds passes first last (IsPlayed fixture minutes all before after status)
  going_stop fixture minutes number sent status all rest rows one sheet behind before here after first mid last is same =
      leads_then K tells serves holds passes first mid last
      (IsGoing fixture minutes all number sheet rest sent before) (DoesRow fixture number one sheet behind here after (Err status)) (IsPlayed fixture minutes all before after status)
      (λ s m b on done. on after status b
      (subst (λ (xs : List EventRow). PlaysOn fixture number sheet xs sent before after status m b) (sym is)
      (inl (behind, subst (λ (x : Option (List ℕ)). DoesRow fixture number one sheet behind x after (Err status) m b) same done))))

  pub going_end : (fixture minutes number sent status : ℕ) (all rest : List EventRow) (sheet : Sheet) (before here after : Option (List ℕ)) (first last : Kept K) → rest ≡ [] → here ≡ before
      → PrintsOne (λ text. text ≡ sent_text sent) 0 status here after
      → Leads tells serves holds passes first last (IsGoing fixture minutes all number sheet rest sent before)
      → Leads tells serves holds passes first last (IsPlayed fixture minutes all before after status)
  going_end fixture minutes number sent status all rest sheet before here after first last is same printed =
      leads_on K tells serves holds passes first last (IsGoing fixture minutes all number sheet rest sent before) (IsPlayed fixture minutes all before after status)
      (λ s b on. on after status b (subst (λ (xs : List EventRow). PlaysOn fixture number sheet xs sent before after status b b) (sym is)
      (refl, subst (λ (x : Option (List ℕ)). PrintsOne (λ text. text ≡ sent_text sent) 0 status x after) same printed)))
