-- The numbers of entries by their keys.
use Rattle.std.specs.Prelude.{◌≡◌, ◌≤◌, ℕ, List, length, Option, Vec}
use Rattle.std.specs.declared.alloc.Global.{Global}
use Rattle.std.specs.BTreeMap.{BTreeMap, get_by}
use Rattle.std.specs.Cmp.Lexicographic.{slice_cmp}
use Rattle.std.specs.Ordering.{nat_cmp}
use Rattle.manager_book.specs.declared.manager.Manager.{Manager}
use Rattle.manager_book.specs.Managers.{AreApart, number_from}

-- the number that stands at a key
abbrev pub number_at : BTreeMap (Vec ℕ Global) ℕ → List ℕ → Option ℕ
number_at numbers key = get_by (λ (k : Vec ℕ Global). slice_cmp nat_cmp key k.items) numbers

-- the numbers are those of the managers, by key, which differ, and there are at most 2,048 of them
pub record IsIndexed (numbers : BTreeMap (Vec ℕ Global) ℕ) (managers : List Manager) : Type 0 where
  pub few : length managers ≤ 2048
  pub apart : AreApart managers
  pub told : (key : List ℕ) → number_at numbers key ≡ number_from 1 managers key
