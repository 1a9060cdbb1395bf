-- What is written, told otherwise.
use Rattle.std.proofs.Common.{◌≡◌, List, Result, subst}
use Rattle.std.specs.declared.alloc.AllocError.{AllocError}
use Rattle.json.specs.Token.{Token}
use Rattle.json.specs.Written.{Written}
use Rattle.json_members.specs.Tokens.{Appends}

-- the same tokens, told otherwise
pub retold : {r : Result (Unit {0}) AllocError} {a b : Written} {ts us : List Token} → ts ≡ us → Appends r a b ts → Appends r a b us
retold {r} {a} {b} same wrote = subst (Appends r a b) same wrote
