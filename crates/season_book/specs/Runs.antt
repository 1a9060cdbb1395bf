-- Runs of requests, one after another.
use Rattle.std.specs.Prelude.{◌≡◌, ℕ, List, [], ◌∷◌}
use Rattle.fpl_base.specs.declared.kinds.Caller.{Caller}
use Rattle.season_book.specs.Book.{Book}
use Rattle.season_book.specs.declared.answer.Answer.{Answer}
use Rattle.season_book.specs.declared.request.Request.{Request}
use Rattle.season_book.specs.Verdict.{Failures, MayAnswer}

-- a request, who asks, the moment that was told for it, and how often the keeper had failed before it and behind it
pub record Asked : Type 0 where
  pub caller : Caller
  pub now : ℕ
  pub request : Request
  pub failures : Failures

-- from a book these requests may get these answers of an operator's host, and lead to that book
abbrev pub Run : List ℕ → Book → List Asked → List Answer → Book → Type 0
Run operator book [] [] after = after ≡ book
Run operator book [] (reply ∷ replies) after = ⊥
Run operator book (asked ∷ more) [] after = ⊥
Run operator book (asked ∷ more) (reply ∷ replies) after =
    (between : Book) × MayAnswer operator asked.failures book asked.caller asked.now asked.request reply between
    × Run operator between more replies after
