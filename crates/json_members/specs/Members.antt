-- Values of members of a JSON object.
use Rattle.std.specs.Prelude.{ℕ, ℤ, List, Option, Some, None}
use Rattle.serde_json.specs.Data.{Data, array, no_items, null, number, unsigned, string}
use Rattle.serde_json.specs.Find.{of_integer}

-- a whole number from 0
abbrev pub count : ℕ → Data
count n = number (unsigned n)

-- a whole number from 0, or null
abbrev pub count_or_null : Option ℕ → Data
count_or_null None = null
count_or_null (Some n) = count n

-- a whole number
abbrev pub integer : ℤ → Data
integer z = number (of_integer z)

-- text, or null
abbrev pub text_or_null : Option (List ℕ) → Data
text_or_null None = null
text_or_null (Some text) = string text

-- a whole number, or null
abbrev pub integer_or_null : Option ℤ → Data
integer_or_null None = null
integer_or_null (Some z) = integer z

-- a list of nothing
abbrev pub no_list : Data
no_list = array no_items
