-- The pages of a folder, and which of them a target names.
use Rattle.std.specs.Prelude.{ℕ, ◌==◌, ◌+◌, ◌&&◌, ◌++◌, nat_lt, nat_le, List, [], ◌∷◌, codes, length, if◌then◌else◌, Option, Some, None}
use Rattle.std.specs.Str.{bytes_eq}
use Rattle.listener.specs.Kinds.{kind_of}
use Rattle.listener.specs.declared.kinds.Kind.{Kind}
use Rattle.listener.specs.declared.pages.Page.{Page}

-- how many bytes pages have together
abbrev pub bytes_in : List Page → ℕ
bytes_in [] = 0
bytes_in (page ∷ pages) = length page.bytes + bytes_in pages

-- the pages with one more of this kind behind them: they are 64 at most, and have 8 MiB together at most
abbrev pub with_kind : List Page → List ℕ → List ℕ → Option Kind → Option (List Page)
with_kind pages name bytes None = None
with_kind pages name bytes (Some kind) =
    if nat_lt (length pages) 64 && nat_le (length bytes + bytes_in pages) 8388608
    then Some (pages ++ (record { name = name; kind = kind; bytes = bytes }) ∷ []) else None

-- the pages with the file of this name, where it may be one
abbrev pub with_page : List Page → List ℕ → List ℕ → Option (List Page)
with_page pages name bytes = with_kind pages name bytes (kind_of name)

-- the name that stands behind the first byte of a target: `index.html` where none does
abbrev pub or_index : List ℕ → List ℕ
or_index [] = codes "index.html"
or_index (b ∷ name) = b ∷ name

-- the page of this name
abbrev pub page_named : List Page → List ℕ → Option Page
page_named [] name = None
page_named (page ∷ pages) name = if bytes_eq page.name name then Some page else page_named pages name

-- the page that a target asks for: `/NAME`, or `/` alone
abbrev pub page_at : List Page → List ℕ → Option Page
page_at pages [] = None
page_at pages (b ∷ name) = if b == 47 then page_named pages (or_index name) else None
