-- What a writer has more after a value, as tokens.
use Rattle.std.specs.Prelude.{◌≡◌, ℕ, List, [], ◌∷◌, ◌++◌, Result, OnOk}
use Rattle.std.specs.declared.alloc.AllocError.{AllocError}
use Rattle.json.specs.Token.{Token}
use Rattle.json.specs.Tree.{json_tokens}
use Rattle.json.specs.Written.{Written}
use Rattle.serde_json.specs.Data.{Data, Members, no_members, member}
use Rattle.serde_json.specs.Written.{outline}

-- the tokens of a value
abbrev pub tokens_of : Data → List Token
tokens_of d = json_tokens (outline d)

-- the tokens of a member
abbrev pub member_tokens : List ℕ → Data → List Token
member_tokens name d = Token.key name ∷ tokens_of d

-- the tokens of members, without what closes their object
abbrev pub all_member_tokens : Members → List Token
all_member_tokens no_members = []
all_member_tokens (member name d ms) = member_tokens name d ++ all_member_tokens ms

-- the writer has these tokens more, and what its buffer held at the start stays
pub record Appends (r : Result (Unit {0}) AllocError) (old new : Written) (ts : List Token) : Type 0 where
  pub tokens : OnOk r (new.tokens ≡ old.tokens ++ ts)
  pub before : new.before ≡ old.before
