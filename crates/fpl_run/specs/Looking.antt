-- Runs whose messages ask nothing but views, where no deadline passes.
use Rattle.std.specs.Prelude.{◌≡◌, ◌≤◌, ◌+◌, ℕ, List, Option, Some, None, sum, ⊤}
use Rattle.fpl_http.specs.Stream.{Request as Message}
use Rattle.request_handler.specs.Looks.{AreLooks}
use Rattle.request_handler.specs.Replying.{Served}

-- from one state to another, in which neither host is stale: where the messages ask nothing but views, and the book behind them
-- has locked no gameweek that the one before had not, no more reads were counted than the views allow in all
abbrev pub LooksReadFew : List Message → ℕ → ℕ → Option Served → Option Served → Type 0
LooksReadFew messages first last (Some old) (Some new) =
    (more : List ℕ) → AreLooks old.host messages more → old.stale ≡ None → new.stale ≡ None → new.host.book.facts ≡ old.host.book.facts → last ≤ first + sum more
LooksReadFew messages first last old new = ⊤
