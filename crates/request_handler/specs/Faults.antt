-- How often the keeper has failed, along messages.
use Rattle.std.specs.Prelude.{ℕ, ◌≤◌, List}
use Rattle.fpl_http.specs.Stream.{Request as Message}
use Rattle.fpl_http.specs.Replies.{Speaks}
use Rattle.fpl_http.specs.Runs.{Run}
use Rattle.request_handler.specs.Replying.{IsReply, Served}

-- in every run of messages the count of the keeper's faults never falls, whatever is replied
abbrev pub FaultsNeverFall : Type 0
FaultsNeverFall = (old new : Served) (messages : List Message) (texts : List (List ℕ)) → Run (Speaks IsReply) old messages texts new → old.failed ≤ new.failed
