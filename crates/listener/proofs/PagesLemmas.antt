-- How many bytes pages have together.
use Rattle.std.proofs.Common.{◌≡◌, ◌+◌, ◌++◌, ℕ, List, [], ◌∷◌, length, arith}
use Rattle.listener.specs.Pages.{bytes_in}
use Rattle.listener.specs.declared.pages.Page.{Page}

-- one page more has its bytes more
pub bytes_in_more : (pages : List Page) (page : Page) → bytes_in (pages ++ page ∷ []) ≡ length page.bytes + bytes_in pages
bytes_in_more [] page = omega arith
bytes_in_more (first ∷ pages) page = omega (arith, bytes_in_more pages page)
