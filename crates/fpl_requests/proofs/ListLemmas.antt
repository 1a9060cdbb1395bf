-- Lists of values, read one after another.
use Rattle.std.proofs.Common.{List, ◌++◌}
use Rattle.std.specs.Prelude.{Result, Ok}
use Rattle.fpl_requests.specs.declared.field.FieldName.{FieldName}
use Rattle.fpl_requests.specs.Members.{◌>>=◌}

-- these, and then what is read
abbrev pub with_front : {X : Type 0} → List X → Result (List X) FieldName → Result (List X) FieldName
with_front front read = read >>= λ xs. Ok (front ++ xs)
