-- what a look at the front of a stream tells
use Rattle.std.specs.Prelude.{ℕ, ◌≡◌, ◌≤◌, ◌<◌, ◌++◌, Bool, List, length, drop}
use Rattle.fpl_http.specs.declared.framing.Framed.{Framed}
use Rattle.fpl_http.specs.declared.framing.Framed.TheVariants as framed
use Rattle.fpl_http.specs.Stream.{Request, IsFront, Wanting, Refusal, Whole}

-- nothing is whole, nor is it before there are so many bytes, whatever comes
pub record Wants (bytes : List ℕ) (n : ℕ) : Type 0 where
  pub wanting : IsFront bytes Wanting
  pub more : length bytes < n
  pub until : (rest : List ℕ) → length (bytes ++ rest) < n → IsFront (bytes ++ rest) Wanting

-- a message is whole, by its length and whether it closes
abbrev pub Frames : List ℕ → ℕ → Bool → Type 0
Frames bytes n closes = (n ≤ length bytes) × (m : Request) × IsFront bytes (Whole m (drop n bytes)) × (m.closes ≡ closes)

-- what a look at the front of a stream tells: nothing is whole, a message is, or a refusal stands there
abbrev pub FramesOf : List ℕ → Framed → Type 0
FramesOf bytes (framed.Wants n) = Wants bytes n
FramesOf bytes (framed.Whole n closes) = Frames bytes n closes
FramesOf bytes framed.Unfit = (k : ℕ) × IsFront bytes (Refusal k)
