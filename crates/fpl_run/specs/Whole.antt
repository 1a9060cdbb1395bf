-- Runs from a lawful book, over a keeper that tells and serves.
use Rattle.std.specs.Prelude.{◌≡◌, ◌⊎◌, ℕ, List, Option}
use Rattle.fpl_base.specs.Keeping.{Map}
use Rattle.fpl_base.specs.Moments.{Moments}
use Rattle.season_book.specs.Book.{Book}
use Rattle.lawful_books.specs.Books.{IsLawful}
use Rattle.season_opening.specs.Opening.{IsKeepable}
use Rattle.season_records.specs.Records.{records}
use Rattle.fpl_http.specs.declared.ending.Ending.{Ending}
use Rattle.request_handler.specs.Replying.{Served}
use Rattle.request_handler.specs.Whole.{IsWhole, IsWholeReply}
use Rattle.fpl_run.specs.Keeping.{IsBehind, opened}
use Rattle.fpl_run.specs.Pipe.{IsSession, Pipes, status_of}
use Rattle.fpl_run.specs.Serve.{DoorState, Serves, ServesOn}

-- a run led to a lawful book, whose records the keeper holds
pub record EndsWhole {K : Type 0} (holds : K → Map → Type 0) (after : K) (later : Option Moments) (fails : ℕ) (leads : Served → Type 0) : Type 0 where
  pub behind : Served
  pub left : IsBehind later fails behind
  pub held : holds after (records behind.host.book)
  pub whole : IsWhole behind
  pub led : leads behind

-- the host was not opened, since the keeper failed or memory ran out, and nothing was told
abbrev pub IsUnmade : Option (List ℕ) → Option (List ℕ) → ℕ → Type 0
IsUnmade before after status = ((status ≡ 4) ⊎ (status ≡ 6)) × (after ≡ before)

-- no reply of a session is 500, and its last book is lawful. Nor is the keeper found damaged as the host is opened
abbrev pub PipesAreWhole : {K : Type 0} → (K → Type 0) → (K → Type 0) → (K → Map → Type 0) → (K → Map → Type 0) → (K → ℕ) → Type 0
PipesAreWhole {K = K} tells serves holds passes faults =
    (old new : K) (key : List ℕ) (left now : Option (List ℕ)) (moments later : Option Moments) (before after : Option (List ℕ)) (status first last : ℕ) (book : Book)
    → tells new → serves new → IsKeepable book → IsLawful book → holds old (records book)
    → Pipes tells serves holds passes faults old new key left now moments later before after status first last
    → ((ending : Ending) × (status ≡ status_of ending)
    × EndsWhole holds new later (faults new) (IsSession IsWholeReply left now before after ending (opened key book moments (faults old))))
    ⊎ ((now ≡ left) × (later ≡ moments) × holds new (records book) × IsUnmade before after status)

-- the same of connections that are served one after another
abbrev pub ServesAreWhole : {K : Type 0} → (K → Type 0) → (K → Type 0) → (K → Map → Type 0) → (K → Map → Type 0) → (K → ℕ) → Type 0
ServesAreWhole {K = K} tells serves holds passes faults =
    (old new : K) (key : List ℕ) (count : ℕ) (before after : DoorState) (moments later : Option Moments) (taken takes : Option (List ℕ)) (status first last : ℕ) (book : Book)
    → tells new → serves new → IsKeepable book → IsLawful book → holds old (records book)
    → Serves tells serves holds passes faults old new key count before after moments later taken takes status first last
    → (EndsWhole holds new later (faults new) (ServesOn IsWholeReply count before after status (opened key book moments (faults old))) × (takes ≡ taken))
    ⊎ ((after ≡ before) × (later ≡ moments) × holds new (records book) × IsUnmade taken takes status)
