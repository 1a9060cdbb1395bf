-- Members of a body, by name.
use Rattle.std.specs.Prelude.{ℕ, List, codes}
use Rattle.serde_json.specs.Data.{Data, string, object, member, no_members}

-- a body whose one member says what is wrong
abbrev pub error_data : List ℕ → Data
error_data text = object (member (codes "error") (string text) no_members)

-- a request whose body is wrong at this field
abbrev pub malformed_data : List ℕ → Data
malformed_data field = object (member (codes "error") (string (codes "malformed")) (member (codes "field") (string field) no_members))
