-- A run of `draft`.
use Rattle.std.specs.Prelude.{◌≡◌, ◌≤◌, ◌<◌, ◌⊎◌, ℕ, List, Option, IfSome, length}
use Rattle.std.specs.Io.KnownBytes.{Consumes, IsAtEnd}
use Rattle.fpl_base.specs.Keeping.{Map}
use Rattle.fpl_base.specs.Moments.{Moments}
use Rattle.fpl_run.specs.Requests.{Drafts}

-- its input, which has 65,536 bytes at most, was read to its end, and its rows were done; or the input has more (10), or failed
-- (1), or memory was wanting for it (6), and then nothing was written and nothing asked
abbrev pub Drafted : {K : Type 0} → (K → Type 0) → (K → Type 0) → (K → Map → Type 0) → (K → Map → Type 0) → (K → ℕ) → K → K → List ℕ → ℕ
    → Option (List ℕ) → Option (List ℕ) → Option Moments → Option Moments → Option (List ℕ) → Option (List ℕ) → ℕ → Type 0
Drafted tells serves holds passes faults old new key members left now moments later before after status =
    ((bytes : List ℕ) × Consumes left now bytes × IsAtEnd now × (length bytes ≤ 65536)
    × Drafts tells serves holds passes faults old new key members bytes moments later before after status)
    ⊎ ((((status ≡ 10) × IfSome left (λ bytes. 65536 < length bytes)) ⊎ (status ≡ 1) ⊎ (status ≡ 6))
    × (after ≡ before) × (new ≡ old) × (later ≡ moments))
