-- What becomes of a client's message beside pages.
use Rattle.std.specs.Prelude.{◌≡◌, ℕ, List, Some, None}
use Rattle.fpl_http.specs.Stream.{IsFront, Request, Whole}
use Rattle.listener.specs.Replies.{page_answer}
use Rattle.listener.specs.declared.pages.Page.{Page}
use Rattle.listener.specs.declared.shown.Fate.{Fate}
use Rattle.listener.specs.declared.shown.Fate.TheVariants as fate

-- a message stands in front of the bytes whose target names a page, and this answers it
pub record AsksForPage (pages : List Page) (bytes text : List ℕ) : Type 0 where
  pub message : Request
  pub rest : List ℕ
  pub front : IsFront bytes (Whole message rest)
  pub answered : page_answer pages message ≡ Some text

-- no message stands in front of them, or its target names no page
abbrev pub AsksForNone : List Page → List ℕ → Type 0
AsksForNone pages bytes = (message : Request) (rest : List ℕ) → IsFront bytes (Whole message rest) → page_answer pages message ≡ None

-- what is shown answers the message
abbrev pub ShowsPage : List Page → List ℕ → Fate → Type 0
ShowsPage pages bytes (fate.Goes asked) = asked.bytes.items ≡ bytes
ShowsPage pages bytes (fate.Shows text) = AsksForPage pages bytes text.items
ShowsPage pages bytes fate.Lost = (text : List ℕ) × AsksForPage pages bytes text
