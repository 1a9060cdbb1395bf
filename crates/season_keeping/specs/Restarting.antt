-- A host that is opened over what a stop left.
use Rattle.std.specs.Prelude.{◌≡◌, ℕ, List, false}
use Rattle.fpl_base.specs.Keeping.{Map}
use Rattle.fpl_base.specs.declared.kinds.Caller.{Caller}
use Rattle.season_book.specs.Book.{Book}
use Rattle.season_book.specs.Verdict.{MayBeLeft}
use Rattle.season_book.specs.declared.request.Request.{Request}
use Rattle.season_keeping.specs.Answering.{StopsKeep}
use Rattle.season_keeping.specs.Housed.{Backs, Housed}
use Rattle.season_keeping.specs.Opening.{Opens}

-- a keeper that tells holds what a stop left of another, and a host was opened over it
pub record Restarts {K R : Type 0} (passes : K → Map → Type 0) (tells_on : R → Type 0) (holds_on passes_on : R → Map → Type 0) (left : K) (start behind : R) (host : Housed) : Type 0 where
  pub map : Map
  pub passed : passes left map
  pub held : holds_on start map
  pub tells : tells_on behind
  pub opens : Opens tells_on holds_on passes_on start behind host

-- A request was asked of a host that stood for a book, whose records its keeper held. Behind a stop at its end, a host that is
-- opened over what the stop left stands for a book that the request may leave; and where the host was not stale behind its
-- answer, for the book that it stood for then: so the command is done that was answered as done, and each one before it.
abbrev pub StopsRestart : {K R : Type 0} → (K → Type 0) → (K → Map → Type 0) → (K → Map → Type 0) → (R → Type 0) → (R → Map → Type 0) → (R → Map → Type 0) → Type 0
StopsRestart {K = K} {R = R} tells holds passes tells_on holds_on passes_on =
    (before after : K) (old new : Housed) (operator : List ℕ) (book : Book) (caller : Caller) (now : ℕ) (request : Request) (start behind : R) (host : Housed)
    → tells after → Backs holds passes before old book → StopsKeep operator tells holds passes before after old book caller now request
    → Restarts passes tells_on holds_on passes_on after start behind host
    → ((left : Book) × MayBeLeft operator book caller now request left × Backs holds_on passes_on behind host left)
    × ((left : Book) → new.stale ≡ false → Backs holds passes after new left → Backs holds_on passes_on behind host left)
