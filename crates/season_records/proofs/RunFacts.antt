-- What moments and verdicts keep, runs keep.
use Rattle.std.proofs.Common.{ℕ, List, [], ◌∷◌, sym, subst, inl, inr}
use Rattle.fpl_base.specs.declared.kinds.Caller.{Caller}
use Rattle.season_book.specs.Book.{Book}
use Rattle.season_book.specs.Runs.{Asked, Run}
use Rattle.season_book.specs.Verdict.{Failures, IsVerdictIn, MayAnswer, MayBeLeft, Verdict, pass}
use Rattle.season_book.specs.declared.answer.Answer.{Answer}
use Rattle.season_book.specs.declared.request.Request.{Request}
use Rattle.season_records.specs.Keeping.{AreEarly, RunsAreEarly}
use Rattle.season_records.specs.Told.{IsInOrder, RunsKeepOrder}
use Rattle.season_records.proofs.BookOrder.{moments_keep_order, verdicts_keep_order}
use Rattle.season_records.proofs.Early.{moments_are_early, verdicts_are_early}

module _ (P : Book → Type 0) (moment : (book : Book) (now : ℕ) → P book → P (pass book now)) (operator : List ℕ)
    (told : (book : Book) (caller : Caller) (now : ℕ) (asked : Request) (verdict : Verdict) → P book → IsVerdictIn operator book caller now asked verdict → P verdict.book) where
  left : (book after : Book) (caller : Caller) (now : ℕ) (asked : Request) → P book → MayBeLeft operator book caller now asked after → P after
  left book after caller now asked holds (inl is) = subst P (sym is) holds
  left book after caller now asked holds (inr (inl is)) = subst P (sym is) (moment book now holds)
  left book after caller now asked holds (inr (inr (refused, is))) = told (pass book now) caller now asked (record { answer = refused; book = after }) (moment book now holds) is

  answered : (failures : Failures) (book after : Book) (caller : Caller) (now : ℕ) (asked : Request) (reply : Answer) → P book
      → MayAnswer operator failures book caller now asked reply after → P after
  answered failures book after caller now asked reply holds (inl is) = told (pass book now) caller now asked (record { answer = reply; book = after }) (moment book now holds) is
  answered failures book after caller now asked reply holds (inr (why, may)) = left book after caller now asked holds may

  runs_keep : (book after : Book) (asked : List Asked) (replies : List Answer) → P book → Run operator book asked replies after → P after
  runs_keep book after [] [] holds run = subst P (sym run) holds
  runs_keep book after [] (reply ∷ replies) holds run = absurd run
  runs_keep book after (asked ∷ more) [] holds run = absurd run
  runs_keep book after (asked ∷ more) (reply ∷ replies) holds (between, may, run) =
      runs_keep between after more replies (answered asked.failures book between asked.caller asked.now asked.request reply holds may) run

pub runs_are_early : RunsAreEarly
runs_are_early operator book after asked replies early run = runs_keep AreEarly moments_are_early operator (verdicts_are_early operator) book after asked replies early run

pub runs_keep_order : RunsKeepOrder
runs_keep_order operator book after asked replies order run = runs_keep IsInOrder moments_keep_order operator (verdicts_keep_order operator) book after asked replies order run
