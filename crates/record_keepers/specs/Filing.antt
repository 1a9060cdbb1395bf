-- What a keeper over the store of a path does with the store that is open, and with what opens it.
use Rattle.std.specs.Prelude.{◌≡◌, ◌⊎◌, ℕ, List, Option, Some, None, Result, Ok, Err, IfOk, IsErr, OnOk, OnErr, IsSomeAnd, Vec, ⊤}
use Rattle.std.specs.declared.alloc.Global.{Global}
use Rattle.fpl_base.specs.Causes.{one_more}
use Rattle.fpl_base.specs.Keeping.{Map, KeysRise, HasKeeperCause, applied, map_of}
use Rattle.fpl_base.specs.declared.outside.Keeper.{Ghosts}
use Rattle.fpl_base.specs.declared.outside.KeeperFault.{KeeperFault}
use Rattle.fpl_base.specs.declared.outside.KeeperFault.TheVariants as fault
use Rattle.fpl_base.specs.declared.records.Op.{Op}
use Rattle.fpl_base.specs.declared.records.RecordKey.{RecordKey as Key}
use Rattle.record_keepers.specs.declared.opened.Opened.{Opened}
use Rattle.record_keepers.specs.declared.opened.Opened.TheVariants.{First, Again}

-- what a loading answers, and a commit
abbrev pub Loaded : Type 0
Loaded = Result (Vec (Key × List ℕ) Global) KeeperFault

abbrev pub Committed : Type 0
Committed = Result ⊤ KeeperFault

-- One call on a keeper, by all that it says of its records.

module _ {K : Type 0} (tells serves : K → Type 0) (holds passes : K → Map → Type 0) (before after : K) where
  -- all records were loaded, or the call failed
  pub record Loads (result : Loaded) : Type 0 where
    pub gave : IfOk result (λ pairs. tells after → (m : Map) → holds before m → m ≡ map_of pairs.items)
    pub alone : OnOk result (tells after → (m : Map) → holds before m → (x : Map) → passes after x → x ≡ m)
    pub done : OnOk result (tells after → (m : Map) → holds before m → holds after m)
    pub kept : OnErr result (tells after → serves after → (m : Map) → holds before m → holds after m)
    pub stops : tells after → (m : Map) → holds before m → (x : Map) → passes after x → passes before x
    pub told : tells after → tells before
    pub served : tells after → serves after → serves before
    pub serving : OnOk result (tells after → serves after)

  -- all changes were made, or none, or the call failed
  pub record Commits (ops : List Op) (result : Committed) : Type 0 where
    pub done : OnOk result (tells after → (m : Map) → holds before m → holds after (applied m ops))
    pub alone : OnOk result (tells after → (m : Map) → holds before m → (x : Map) → passes after x → x ≡ applied m ops)
    pub failed : OnErr result (tells after → serves after → (m : Map) → holds before m → holds after m ⊎ holds after (applied m ops))
    pub kept : result ≡ Err fault.Memory → tells after → serves after → (m : Map) → holds before m → holds after m
    pub stops : tells after → (m : Map) → holds before m → (x : Map) → passes after x → passes before x ⊎ (x ≡ applied m ops)
    pub told : tells after → tells before
    pub served : tells after → serves after → serves before
    pub serving : OnOk result (tells after → serves after)

-- the same of a keeper with its count of faults
module _ {K : Type 0} (g : Ghosts K) (before after : K) where
  pub record LoadsSo (result : Loaded) : Type 0 where
    pub rise : IfOk result (λ pairs. KeysRise pairs.items)
    pub loads : Loads g.tells g.serves g.holds g.passes before after result
    pub cause : HasKeeperCause (g.faults before) (g.faults after) result

  pub record CommitsSo (ops : List Op) (result : Committed) : Type 0 where
    pub commits : Commits g.tells g.serves g.holds g.passes before after ops result
    pub cause : HasKeeperCause (g.faults before) (g.faults after) result

-- and of the store that is open, which stays the one with which the keeper began, or the one that was opened again
module _ {A B : Type 0} (f : Ghosts A) (g : Ghosts B) where
  abbrev pub LoadsIn : Opened A B → Opened A B → Loaded → Type 0
  LoadsIn (First before) (First after) result = LoadsSo f before after result
  LoadsIn (Again before) (Again after) result = LoadsSo g before after result
  LoadsIn (First before) (Again after) result = ⊥
  LoadsIn (Again before) (First after) result = ⊥

  abbrev pub CommitsIn : Opened A B → Opened A B → List Op → Committed → Type 0
  CommitsIn (First before) (First after) ops result = CommitsSo f before after ops result
  CommitsIn (Again before) (Again after) ops result = CommitsSo g before after ops result
  CommitsIn (First before) (Again after) ops result = ⊥
  CommitsIn (Again before) (First after) ops result = ⊥

-- A keeper over the store of a path: what opens it, the path, the store that is open, if one is, and how often the keeper failed.

pub record Filed (A B O : Type 0) : Type 0 where
  pub opening : O
  pub path : List ℕ
  pub stored : Option (Opened A B)
  pub faults : ℕ

-- a fact of the store with which the keeper began; there is none of a store that was opened again
abbrev pub OfFirst : {A B : Type 0} → (A → Type 0) → Opened A B → Type 0
OfFirst P (First a) = P a
OfFirst P (Again b) = ⊥

-- a fact of that store while it is the open one
abbrev pub FirstIs : {A B : Type 0} → (A → Type 0) → Option (Opened A B) → Type 0
FirstIs P stored = IsSomeAnd stored (OfFirst P)

-- the open store, if one is, is one with which a keeper begins, and this is a fact of it
abbrev pub BeginsWith : {A B : Type 0} → (A → Type 0) → Option (Opened A B) → Type 0
BeginsWith P None = ⊤
BeginsWith P (Some (First a)) = P a
BeginsWith P (Some (Again b)) = ⊥

-- how often a keeper failed behind a fault: once more, unless memory ran out
abbrev pub counted_fault : ℕ → KeeperFault → ℕ
counted_fault before fault.Failed = one_more before
counted_fault before fault.Memory = before

-- and behind an answer
abbrev pub counted : {T : Type 0} → ℕ → Result T KeeperFault → ℕ
counted before (Ok it) = before
counted before (Err why) = counted_fault before why

-- behind a call the store is still open, and none is where the call failed
abbrev pub stored_behind : {T S : Type 0} → Result T KeeperFault → S → Option S
stored_behind (Ok it) store = Some store
stored_behind (Err why) store = None

-- this store is open for a call: it was, or it was opened for it, at this path
abbrev pub IsOpenFor : {A B O : Type 0} → (O → O → List ℕ → B → Type 0) → (O → ℕ) → List ℕ → Option (Opened A B) → O → O → Opened A B → Type 0
IsOpenFor opens fails path (Some stored) before after store = (store ≡ stored) × (after ≡ before)
IsOpenFor {B = B} opens fails path None before after store = (b : B) × (store ≡ Again b) × opens before after path b × (fails after ≡ fails before)

-- none was open, and what was to open one failed
abbrev pub FailsToOpen : {A B O T : Type 0} → (O → ℕ) → Option (Opened A B) → O → O → Result T KeeperFault → Type 0
FailsToOpen fails stored before after result = (stored ≡ None) × IsErr result × HasKeeperCause (fails before) (fails after) result

module _ {A B : Type 0} (f : Ghosts A) (g : Ghosts B) where
  -- the changes are committed to the store that is open; and where none is, that is a failure
  abbrev pub CommitsTo : Option (Opened A B) → Option (Opened A B) → List Op → Committed → Type 0
  CommitsTo (Some before) stored ops result = (after : Opened A B) × CommitsIn f g before after ops result × (stored ≡ stored_behind result after)
  CommitsTo None stored ops result = (result ≡ Err fault.Failed) × (stored ≡ None)

module _ {A B O : Type 0} (f : Ghosts A) (g : Ghosts B) where
  -- the store is loaded, which is opened where none is open; or it was to be opened, and that failed
  abbrev pub PathLoads : (O → O → List ℕ → B → Type 0) → (O → ℕ) → Filed A B O → Filed A B O → Loaded → Type 0
  PathLoads opens fails old new result =
      (new.faults ≡ counted old.faults result)
      × (new.path ≡ old.path)
      × (((before : Opened A B) × (after : Opened A B) × IsOpenFor opens fails old.path old.stored old.opening new.opening before × LoadsIn f g before after result × (new.stored ≡ stored_behind result after))
      ⊎ (FailsToOpen fails old.stored old.opening new.opening result × (new.stored ≡ None)))

  abbrev pub PathCommits : Filed A B O → Filed A B O → List Op → Committed → Type 0
  PathCommits old new ops result = (new.faults ≡ counted old.faults result) × (new.path ≡ old.path) × (new.opening ≡ old.opening) × CommitsTo f g old.stored new.stored ops result

-- what is one thing of each keeper is one thing of the first store
pub one_of_first : {A B M : Type 0} (P : A → M → Type 0) → ((k : A) (m n : M) → P k m → P k n → m ≡ n) → (o : Option (Opened A B)) (m n : M) → FirstIs (λ k. P k m) o → FirstIs (λ k. P k n) o → m ≡ n
one_of_first P law (Some (First k)) m n p q = law k m n p q
one_of_first P law (Some (Again k)) m n p q = absurd p
one_of_first P law None m n p q = absurd p
