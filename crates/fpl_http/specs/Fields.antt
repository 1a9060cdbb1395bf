-- the values of the fields of a name
use Rattle.std.specs.Prelude.{◌≤◌, length, ℕ, ◌≡◌, List, [], ◌∷◌, map, if◌then◌else◌, Bool, ⊤}
use Rattle.std.specs.Str.{bytes_eq}
use Rattle.std.specs.Char.{to_ascii_lowercase}
use Rattle.httparse.specs.Spans.{span_bytes, IsWithin}
use Rattle.fpl_http.specs.declared.fields.Sought.{Sought}
use Rattle.fpl_http.specs.declared.fields.Sought.TheVariants.{Absent, Once, Twice}

-- two texts are one without regard to case
abbrev pub same_name : List ℕ → List ℕ → Bool
same_name a b = bytes_eq (map to_ascii_lowercase a) (map to_ascii_lowercase b)

-- the values of all fields of a name, in order
abbrev pub values_of : List ℕ → List (List ℕ × List ℕ) → List (List ℕ)
values_of name [] = []
values_of name (f ∷ fs) = if same_name f.0 name then f.1 ∷ values_of name fs else values_of name fs

-- none, one, or more
abbrev pub Shows : List ℕ → Sought → List (List ℕ) → Type 0
Shows buf Absent vs = vs ≡ []
Shows buf (Once s) vs = vs ≡ span_bytes buf s ∷ []
Shows buf Twice vs = 2 ≤ length vs

-- a value that stands once stands within n bytes
abbrev pub SoughtWithin : ℕ → Sought → Type 0
SoughtWithin n Absent = ⊤
SoughtWithin n (Once s) = IsWithin n s
SoughtWithin n Twice = ⊤
