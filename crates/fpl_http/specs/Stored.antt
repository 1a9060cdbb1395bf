-- what a buffer holds
use Rattle.std.specs.Prelude.{ℕ, List}

-- the bytes that are kept, those that wait after them, and how many more there is room for at their end
pub record Stored : Type 0 where
  pub kept : List ℕ
  pub waits : List ℕ
  pub room : ℕ
