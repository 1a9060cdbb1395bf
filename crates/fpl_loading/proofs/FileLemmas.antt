-- Files of a folder that are read one after another.
use Rattle.std.proofs.Common.{◌≡◌, ◌<◌, ◌≤◌, ◌∙◌, ℕ, List, length, Option, Some, None, IfSome, Result, Ok, Err, inl, inr, refl, sym, subst, arith}
use Rattle.fpl_base.specs.Causes.{Rose}
use Rattle.fpl_base.specs.Shelves.{HasShelfCause}
use Rattle.fpl_base.specs.declared.outside.ShelfFault.{ShelfFault}
use Rattle.fpl_base.specs.declared.outside.ShelfFault.TheVariants as shelf
use Rattle.fpl_loading.specs.Files.{AreFiles, AreShortBefore, EndsAt, ExplainsFile, ExplainsLoad, HasLoadCause, HasRead, IsFile, IsFileRead, IsLong, IsReadUntil, IsShelfFault, IsShort, clubs_name, file_name, load_fault, names_before, path_in, players_name}
use Rattle.fpl_loading.specs.declared.files.LoadFault.{LoadFault}
use Rattle.fpl_loading.specs.declared.files.LoadFault.TheVariants as fault

-- ---- one file

-- a fault in the place of something
abbrev pub bad : (X E : Type 0) → E → Result X E
bad X E e = Err e

abbrev pub good : (X E : Type 0) → X → Result X E
good X E x = Ok x

ok_err : (X E : Type 0) (x : X) (e : E) → good X E x ≡ bad X E e → ⊥
ok_err X E x e is = cc

failed_long : shelf.Long ≡ shelf.Failed → ⊥
failed_long is = cc

failed_memory : shelf.Memory ≡ shelf.Failed → ⊥
failed_memory is = cc

inside : (X E : Type 0) (a b : E) → bad X E a ≡ bad X E b → a ≡ b
inside X E a b is = cc

-- what came of a file as a fault of the load has the cause that the shelf's has
pub file_had : (before now : ℕ) (text : List ℕ) → HasShelfCause before now (good (List ℕ) ShelfFault text) → HasLoadCause before now (good (List ℕ) LoadFault text)
file_had before now text cause = record { later = cause.later; caused = cause.only (λ is. ok_err (List ℕ) ShelfFault text shelf.Failed is) }

pub file_not_had : (before now file : ℕ) (why : ShelfFault) → HasShelfCause before now (bad (List ℕ) ShelfFault why) → HasLoadCause before now (bad (List ℕ) LoadFault (load_fault file why))
file_not_had before now file shelf.Failed cause = record { later = cause.later; caused = cause.failed refl }
file_not_had before now file shelf.Long cause = record { later = cause.later; caused = cause.only (λ is. failed_long (inside (List ℕ) ShelfFault shelf.Long shelf.Failed is)) }
file_not_had before now file shelf.Memory cause = record { later = cause.later; caused = cause.only (λ is. failed_memory (inside (List ℕ) ShelfFault shelf.Memory shelf.Failed is)) }

-- why a file was not had
pub file_explained : (files : Option (List ℕ → List ℕ)) (folder : List ℕ) (file : ℕ) (why : ShelfFault)
    → (bad (List ℕ) ShelfFault why ≡ bad (List ℕ) ShelfFault shelf.Long → IfSome files (λ bytes_of. 4194304 < length (bytes_of (path_in folder (file_name file))))) → ExplainsFile files folder file (load_fault file why)
file_explained files folder file shelf.Failed long = tt
file_explained files folder file shelf.Long long = long refl
file_explained files folder file shelf.Memory long = tt

module _ (F : Type 0) (once : F → List ℕ → Result (List ℕ) ShelfFault → F → Type 0) where
  -- what the shelf was asked, as one of the load
  pub file_asked : (folder : List ℕ) (file : ℕ) (why : ShelfFault) (old new : F) → once old (path_in folder (file_name file)) (Err why) new
      → IsFileRead once folder file (Err (load_fault file why)) old new
  file_asked folder file shelf.Failed old new asked = (refl, asked)
  file_asked folder file shelf.Long old new asked = (refl, asked)
  file_asked folder file shelf.Memory old new asked = inr asked

  -- ---- one behind another

  -- the files before one were had, and that one was not
  pub ends_at : (files : Option (List ℕ → List ℕ)) (folder : List ℕ) (file : ℕ) (why : LoadFault) (old mid new : F)
      → HasRead once files folder (names_before file) old mid → IsFileRead once folder file (Err why) mid new → IsReadUntil once files folder why old new
  ends_at files folder file (fault.Shelf named) old mid new had read =
      subst (λ (n : ℕ). EndsAt once files folder n shelf.Failed old new) (sym read.0) (mid, had, read.1)
  ends_at files folder file (fault.Long named) old mid new had read =
      subst (λ (n : ℕ). EndsAt once files folder n shelf.Long old new) (sym read.0) (mid, had, read.1)
  ends_at files folder file (fault.Row named row) old mid new had read = absurd read
  ends_at files folder file fault.Memory old mid new had (inl same) = (file, inl (subst (λ (s : F). HasRead once files folder (names_before file) old s) (sym same) had))
  ends_at files folder file fault.Memory old mid new had (inr asked) = (file, inr (mid, had, asked))

  -- why a file was not had, where those before it are short
  pub explains_at : (files : Option (List ℕ → List ℕ)) (folder : List ℕ) (file split : ℕ) (why : LoadFault) (mid new : F)
      → IfSome files (AreShortBefore folder file) → IsFileRead once folder file (Err why) mid new → ExplainsFile files folder file why → ExplainsLoad files folder split why
  explains_at None folder file split (fault.Shelf named) mid new short read says = tt
  explains_at (Some bytes_of) folder file split (fault.Shelf named) mid new short read says = subst (λ (n : ℕ). AreShortBefore folder n bytes_of) (sym read.0) short
  explains_at None folder file split (fault.Long named) mid new short read says = tt
  explains_at (Some bytes_of) folder file split (fault.Long named) mid new short read says =
      subst (λ (n : ℕ). AreShortBefore folder n bytes_of × IsLong bytes_of (path_in folder (file_name n))) (sym read.0) (short, says)
  explains_at files folder file split (fault.Row named row) mid new short read says = absurd read
  explains_at files folder file split fault.Memory mid new short read says = tt

-- a file that was had is short
pub short_file : (files : Option (List ℕ → List ℕ)) (path text : List ℕ) → IsFile files path text → IfSome files (λ bytes_of. IsShort bytes_of path)
short_file None path text is = tt
short_file (Some bytes_of) path text is = subst (λ (t : List ℕ). length t ≤ 4194304) is.told is.short

pub none_before : (files : Option (List ℕ → List ℕ)) (folder : List ℕ) → IfSome files (AreShortBefore folder 1)
none_before None folder = tt
none_before (Some bytes_of) folder = tt

pub one_before : (files : Option (List ℕ → List ℕ)) (folder clubs : List ℕ) → IsFile files (path_in folder clubs_name) clubs → IfSome files (AreShortBefore folder 2)
one_before None folder clubs is = tt
one_before (Some bytes_of) folder clubs is = (short_file (Some bytes_of) (path_in folder clubs_name) clubs is, tt)

pub two_before : (files : Option (List ℕ → List ℕ)) (folder clubs players : List ℕ)
    → IsFile files (path_in folder clubs_name) clubs → IsFile files (path_in folder players_name) players → IfSome files (AreShortBefore folder 3)
two_before None folder clubs players is are = tt
two_before (Some bytes_of) folder clubs players is are =
    (short_file (Some bytes_of) (path_in folder clubs_name) clubs is, (short_file (Some bytes_of) (path_in folder players_name) players are, tt))

-- the count stands behind files that were had
pub cause_behind : (X Y : Type 0) (before between now : ℕ) (why : LoadFault) → between ≡ before → HasLoadCause between now (bad X LoadFault why) → HasLoadCause before now (bad Y LoadFault why)
cause_behind X Y before between now (fault.Shelf file) is cause = record { later = omega (arith, is, cause.later); caused = subst (λ (n : ℕ). Rose n now) is cause.caused }
cause_behind X Y before between now (fault.Long file) is cause = record { later = omega (arith, is, cause.later); caused = cause.caused ∙ is }
cause_behind X Y before between now (fault.Row file row) is cause = record { later = omega (arith, is, cause.later); caused = cause.caused ∙ is }
cause_behind X Y before between now fault.Memory is cause = record { later = omega (arith, is, cause.later); caused = cause.caused ∙ is }

-- that the shelf failed has its cause
pub shelf_failed : (X : Type 0) (before now : ℕ) (why : LoadFault) → HasLoadCause before now (bad X LoadFault why) → IsShelfFault why → Rose before now
shelf_failed X before now (fault.Shelf file) cause is = cause.caused
shelf_failed X before now (fault.Long file) cause is = absurd is
shelf_failed X before now (fault.Row file row) cause is = absurd is
shelf_failed X before now fault.Memory cause is = absurd is

-- ---- the files that were had

module _ (F : Type 0) (once : F → List ℕ → Result (List ℕ) ShelfFault → F → Type 0) (files : Option (List ℕ → List ℕ)) (folder : List ℕ) where
  pub none_read : (old : F) → HasRead once files folder (names_before 1) old old
  none_read old = refl

  pub clubs_read : (clubs : List ℕ) (old mid : F) → IsFile files (path_in folder clubs_name) clubs → IsFileRead once folder 1 (Ok clubs) old mid
      → HasRead once files folder (names_before 2) old mid
  clubs_read clubs old mid is asked = (clubs, mid, is, asked, refl)

  pub players_read : (clubs players : List ℕ) (old mid late : F) → IsFile files (path_in folder clubs_name) clubs → IsFile files (path_in folder players_name) players
      → IsFileRead once folder 1 (Ok clubs) old mid → IsFileRead once folder 2 (Ok players) mid late → HasRead once files folder (names_before 3) old late
  players_read clubs players old mid late is are asked second = (clubs, mid, is, asked, (players, late, are, second, refl))

  pub all_read : (clubs players fixtures : List ℕ) (old mid late new : F) → AreFiles files folder clubs players fixtures
      → IsFileRead once folder 1 (Ok clubs) old mid → IsFileRead once folder 2 (Ok players) mid late → IsFileRead once folder 3 (Ok fixtures) late new
      → HasRead once files folder (names_before 4) old new
  all_read clubs players fixtures old mid late new are asked second third =
      (clubs, mid, are.clubs_are, asked, (players, late, are.players_are, second, (fixtures, new, are.fixtures_are, third, refl)))

-- what holds of a file holds of it where the shelf has the same files
pub file_still : (files now : Option (List ℕ → List ℕ)) (path text : List ℕ) → now ≡ files → IsFile now path text → IsFile files path text
file_still files now path text same is = subst (λ (f : Option (List ℕ → List ℕ)). IsFile f path text) same is

pub explained_still : (files now : Option (List ℕ → List ℕ)) (folder : List ℕ) (file : ℕ) (why : LoadFault) → now ≡ files → ExplainsFile now folder file why → ExplainsFile files folder file why
explained_still files now folder file why same says = subst (λ (f : Option (List ℕ → List ℕ)). ExplainsFile f folder file why) same says
