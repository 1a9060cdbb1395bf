-- runs of a machine over messages, and the texts of its answers
use Rattle.std.specs.Prelude.{ℕ, ◌≡◌, List, [], ◌∷◌, ◌++◌, Option}
use Rattle.std.specs.Io.KnownBytes.{Appends}
use Rattle.fpl_http.specs.Stream.{Request, Begins}

-- from the old state these messages may be answered by these texts, one after another, and leave the new state
abbrev pub Run : {S : Type 0} → (S → Request → List ℕ → S → Type 0) → S → List Request → List (List ℕ) → S → Type 0
Run step old [] [] new = new ≡ old
Run step old [] (t ∷ ts) new = ⊥
Run step old (m ∷ ms) [] new = ⊥
Run {S = S} step old (m ∷ ms) (t ∷ ts) new = (mid : S) × step old m t mid × Run step mid ms ts new

-- one text after another
abbrev pub joined : List (List ℕ) → List ℕ
joined [] = []
joined (t ∷ ts) = t ++ joined ts

-- messages at the front of a stream were answered, up to the rest, and nothing else was sent
pub record Served {S : Type 0} (step : S → Request → List ℕ → S → Type 0) (stream rest : List ℕ) (old new : S) (before after : Option (List ℕ)) : Type 0 where
  pub messages : List Request
  pub texts : List (List ℕ)
  pub begins : Begins stream messages rest
  pub run : Run step old messages texts new
  pub sent : Appends before after (joined texts)
