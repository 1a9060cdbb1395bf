-- What holds of the fields of every book.
use Rattle.std.specs.Prelude.{ℕ, List, Vec}
use Rattle.std.specs.declared.alloc.Global.{Global}
use Rattle.std.specs.BTreeMap.{BTreeMap}
use Rattle.manager_book.specs.declared.manager.Manager.{Manager}
use Rattle.manager_book.specs.Indexed.{IsIndexed}
use Rattle.manager_book.specs.Managers.{AreRisen}

-- the numbers are those of the managers, and the rows of each rise
pub record IsKept (numbers : BTreeMap (Vec ℕ Global) ℕ) (managers : List Manager) : Type 0 where
  pub indexed : IsIndexed numbers managers
  pub risen : AreRisen managers
