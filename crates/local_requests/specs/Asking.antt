-- A request that is asked of a host.
use Rattle.std.specs.Prelude.{◌≡◌, ◌≢◌, ◌⊎◌, ℕ, Option, Some, None}
use Rattle.fpl_base.specs.Moments.{Tells}
use Rattle.fpl_base.specs.declared.kinds.Caller.{Caller}
use Rattle.season_book.specs.Book.{Book}
use Rattle.season_book.specs.Doing.{IsOutLate}
use Rattle.season_book.specs.Verdict.{MayAnswer, pass}
use Rattle.season_book.specs.declared.answer.Answer.{Answer}
use Rattle.season_book.specs.declared.answer.Answer.TheVariants as answer
use Rattle.season_book.specs.declared.request.Request.{Request}
use Rattle.season_keeping.specs.Answering.{IsCaused, WouldChange}
use Rattle.request_handler.specs.Replying.{Served, failures_in}

-- what is stale behind an answer to a request that was asked in a book: where the keeper failed the host is, from this book
-- on; where memory was wanting it may be; behind every other answer it is not
abbrev pub IsStaleAfter : Book → Answer → Option Book → Type 0
IsStaleAfter book told stale =
    ((stale ≡ None) × (told ≢ answer.Keeper)) ⊎ ((stale ≡ Some book) × ((told ≡ answer.Keeper) ⊎ (told ≡ answer.Memory)))

-- a caller's request was heard at a moment: what was told may be answered in the book and leads to the one behind it; a keeper
-- that failed is told where its count rose, and there alone, and only where the request would change the book; and where the
-- host is not stale behind it, want of memory only where nothing refuses the request. The moments and the operator's key stay
pub record IsHeardAt (now : ℕ) (old : Served) (caller : Caller) (request : Request) (told : Answer) (new : Served) : Type 0 where
  pub may : MayAnswer old.host.operator (failures_in old new) old.host.book caller now request told new.host.book
  pub changes : told ≡ answer.Keeper → WouldChange old.host.operator old.host.book caller now request
  pub caused : IsCaused (failures_in old new) told
  pub late : new.stale ≡ None → IsOutLate old.host.operator (pass old.host.book now) caller now request told
  pub operator : new.host.operator ≡ old.host.operator
  pub moments : new.moments ≡ old.moments
  pub stale : IsStaleAfter old.host.book told new.stale

-- it was heard at the moment that the clock told
pub record IsHeard (old : Served) (caller : Caller) (request : Request) (told : Answer) (new : Served) : Type 0 where
  pub now : ℕ
  pub tells : Tells old.moments now new.moments
  pub heard : IsHeardAt now (record old { moments = new.moments }) caller request told new
