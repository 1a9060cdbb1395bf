-- What a keeper holds behind the commits of a request.
use Rattle.std.proofs.Common.{◌≡◌, ℕ, Bool, true, false, List, refl, sym, ap, ◌∙◌, inl, inr}
use Rattle.fpl_base.specs.Keeping.{Map, applied}
use Rattle.fpl_base.specs.declared.kinds.Caller.{Caller}
use Rattle.season_book.specs.Book.{Book}
use Rattle.season_book.specs.Verdict.{IsVerdict, Verdict, pass}
use Rattle.season_book.specs.declared.request.Request.{Request}
use Rattle.season_records.specs.declared.slot.Slot.{Slot}
use Rattle.season_records.specs.Commits.{CommitsHoldOne, HoldsLeft, HoldsOne, MayCommit, RequestsCommit}
use Rattle.season_records.specs.Keeping.{Leads}
use Rattle.season_records.specs.Records.{records, told}
use Rattle.season_records.specs.Touched.{batch, locked_slots, touched_in}
use Rattle.season_records.proofs.Kept.{locks_keep_records, verdicts_keep_records}

pub commits_hold_one : CommitsHoldOne
commits_hold_one slots before behind m after true leads holds taken = taken ∙ ap (λ m. applied m (batch (told behind) slots)) holds ∙ leads
commits_hold_one slots before behind m after false leads holds (inl stays) = inl (stays ∙ holds)
commits_hold_one slots before behind m after false leads holds (inr taken) = inr (taken ∙ ap (λ m. applied m (batch (told behind) slots)) holds ∙ leads)

may_hold_one : (slots : List Slot) (before behind : Book) (m after : Map) (went : Bool)
    → Leads slots before behind → m ≡ records before → MayCommit slots before behind m went after → HoldsOne before behind went after
may_hold_one slots before behind m after true leads holds (inl (same, well, kept)) = kept ∙ holds ∙ ap records (sym same)
may_hold_one slots before behind m after false leads holds (inl (same, well, kept)) = inl (kept ∙ holds)
may_hold_one slots before behind m after went leads holds (inr committed) = commits_hold_one slots before behind m after went leads holds committed

module _ (operator : List ℕ) (book : Book) (caller : Caller) (now : ℕ) (asked : Request) where
  lock_left : (m : Map) → HoldsOne book (pass book now) false m → HoldsLeft operator book caller now asked m
  lock_left m (inl holds) = (book, inl refl, holds)
  lock_left m (inr holds) = (pass book now, inr (inl refl), holds)

  request_left : (m : Map) (verdict : Verdict) → IsVerdict operator book caller now asked verdict
      → HoldsOne (pass book now) verdict.book false m → HoldsLeft operator book caller now asked m
  request_left m verdict is (inl holds) = (pass book now, inr (inl refl), holds)
  request_left m verdict is (inr holds) = (verdict.book, inr (inr (verdict.answer, is)), holds)

pub requests_commit : RequestsCommit
requests_commit operator book caller now asked verdict start middle end true true in_time is holds first second =
    may_hold_one (touched_in (pass book now) caller asked) (pass book now) verdict.book middle end true
    (verdicts_keep_records operator (pass book now) caller now asked verdict in_time is)
    (may_hold_one locked_slots book (pass book now) start middle true (locks_keep_records book now) holds first) second
requests_commit operator book caller now asked verdict start middle end true false in_time is holds first second =
    request_left operator book caller now asked end verdict is
    (may_hold_one (touched_in (pass book now) caller asked) (pass book now) verdict.book middle end false
    (verdicts_keep_records operator (pass book now) caller now asked verdict in_time is)
    (may_hold_one locked_slots book (pass book now) start middle true (locks_keep_records book now) holds first) second)
requests_commit operator book caller now asked verdict start middle end false went in_time is holds first second =
    lock_left operator book caller now asked end (moved (may_hold_one locked_slots book (pass book now) start middle false (locks_keep_records book now) holds first))
  where
    moved : HoldsOne book (pass book now) false middle → HoldsOne book (pass book now) false end
    moved (inl h) = inl (second ∙ h)
    moved (inr h) = inr (second ∙ h)
