-- What messages ask, and that their commands act once, over whole runs.
use Rattle.std.specs.Prelude.{◌≡◌, ◌⊎◌, ◌≤◌, ℕ, Bool, List, [], ◌∷◌, Ok}
use Rattle.fpl_base.specs.declared.kinds.Caller.{Caller}
use Rattle.fpl_base.specs.Moments.{Tells}
use Rattle.season_book.specs.Book.{caller_number, last_number}
use Rattle.season_book.specs.Hosts.{HostState}
use Rattle.season_book.specs.Once.{Acted, RiseByOne, acted_numbers}
use Rattle.season_book.specs.Runs.{Asked}
use Rattle.season_book.specs.Verdict.{MayAnswer}
use Rattle.season_book.specs.declared.answer.Answer.{Answer}
use Rattle.fpl_http.specs.Stream.{Request as Message}
use Rattle.fpl_http.specs.Replies.{Speaks}
use Rattle.fpl_http.specs.Runs.{Run}
use Rattle.request_handler.specs.Replying.{Asking, IsAsked, IsReply, Served, failures_in}

-- a message asks one thing of a host, or is refused in one way before the host judges it
abbrev pub OneAsked : Type 0
OneAsked = (host : HostState) (message : Message) (a b : Asking) → IsAsked host message a → IsAsked host message b → a ≡ b

-- the host judged what a message asks, at the moment that was told for it, and answered so. A host that was stale was made
-- ready before, which left the host, the moments and the keeper's count as they were
pub record IsJudgedAs (old : Served) (message : Message) (asked : Asked) (answer : Answer) (new : Served) : Type 0 where
  pub asks : IsAsked old.host message (Ok (asked.caller, asked.request))
  pub told : Tells old.moments asked.now new.moments
  pub failures : asked.failures ≡ failures_in old new
  pub answered : MayAnswer old.host.operator asked.failures old.host.book asked.caller asked.now asked.request answer new.host.book
  pub operator : new.host.operator ≡ old.host.operator

-- a message was not judged: the host and the moments are as they were, and the keeper's count did not fall
abbrev pub IsPassedOver : Served → Served → Type 0
IsPassedOver old new = (new.host ≡ old.host) × (new.moments ≡ old.moments) × (old.failed ≤ new.failed)

-- what the host judged of these messages, one after another, and what it answered; it passed over the other messages
abbrev pub AreJudged : Served → List Message → List Asked → List Answer → Served → Type 0
AreJudged old [] [] [] new = new ≡ old
AreJudged old (m ∷ messages) [] [] new = (mid : Served) × IsPassedOver old mid × AreJudged mid messages [] [] new
AreJudged old (m ∷ messages) (one ∷ more) (answer ∷ answers) new =
    ((mid : Served) × IsPassedOver old mid × AreJudged mid messages (one ∷ more) (answer ∷ answers) new)
    ⊎ ((mid : Served) × IsJudgedAs old m one answer mid × AreJudged mid messages more answers new)
AreJudged old messages asked answers new = ⊥

-- in every run of messages, what the host judged acts or rests, one after another, and the numbers of each caller's
-- commands that acted rise by one from his last number before the run: no command acts twice, and none is left out
abbrev pub MessagesActOnce : Type 0
MessagesActOnce = (old new : Served) (messages : List Message) (texts : List (List ℕ)) → Run (Speaks IsReply) old messages texts new
    → (asked : List Asked) × (answers : List Answer) × (acts : List Bool) × AreJudged old messages asked answers new
    × Acted old.host.operator old.host.book asked answers acts new.host.book
    × ((caller : Caller) → RiseByOne (last_number old.host.book caller) (acted_numbers (caller_number caller) asked acts))
