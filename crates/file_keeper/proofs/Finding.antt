-- What an opening found is what the files told.
use Rattle.std.proofs.Common.{◌≡◌, refl, sym, subst, false, true≢false, Option, Some, None, Ok, Err, ℕ, List}
use Rattle.std.specs.Prelude.{◌≢◌, Bool, IsErr, IsTrue, codes}
use Rattle.sqlite_wal.specs.Recovery.{Image}
use Rattle.sqlite.specs.Held.{Held}
use Rattle.sqlite.specs.Start.{FindsIn}
use Rattle.sqlite.specs.State.{State, HasCleanDisk, IsLive, Opens}
use Rattle.fpl_base.specs.Keeping.{Map}
use Rattle.season_keeper.specs.Holding.{HoldsMap, MayLeave, Tells}
use Rattle.season_keeper.proofs.Keeping.{trees_one}
use Rattle.record_keepers.specs.Filing.{BeginsWith, FirstIs}
use Rattle.file_keeper.specs.Opening.{CommittedTells, FilesTell, IsBegunBy, IsOpenedBy}
use Rattle.record_keepers.specs.declared.opened.Opened.{Opened}
use Rattle.record_keepers.specs.declared.opened.Opened.TheVariants.{First, Again}

told_by : (image : Image) (s : State) (m : Map) → Opens s → IsLive s → FindsIn image s → FilesTell image m → Tells s.committed m
told_by image s m opens live finds tell = tell.each s.committed finds.reads (live opens.is_open).1

found_holds : (image : Image) (s : State) (m : Map) → Opens s → IsLive s → FindsIn image s → FilesTell image m → HoldsMap s false m
found_holds image s m opens live finds tell = record { open_ = opens.is_open; autocommit = opens.autocommit; finds = subst (λ db. Tells db m) (sym opens.clean) (told_by image s m opens live finds tell) }

found_alone : (image : Image) (s : State) (m : Map) → Opens s → IsLive s → FindsIn image s → FilesTell image m → (x : Map) → CommittedTells s x → x ≡ m
found_alone image s m opens live finds tell x left = trees_one left.0 s.committed x m left.1 left.2 (told_by image s m opens live finds tell)

-- what was opened is no error
pub not_err : {A E : Type 0} (a : A) (e : E) → Ok a ≡ Err e → ⊥
not_err a e is = true≢false (sym (subst (λ r. IsErr r) (sym is) refl))

-- a keeper over a connection is opened as the connection was
pub opened_over : {S : Type 0} (st : Held S → State) (path : List ℕ) (kept conn : Held S) → kept ≡ conn → IsOpenedBy path (st conn) → IsOpenedBy path (st kept)
opened_over st path kept conn is it = subst (λ h. IsOpenedBy path (st h)) (sym is) it

-- and tells what it found
pub begun_over : {S : Type 0} (st : Held S → State) (image : Image) (path : List ℕ) (kept conn : Held S) (ready : Bool) → kept ≡ conn → ready ≡ false → path ≢ codes ":memory:"
    → (HasCleanDisk (st conn) → Opens (st conn) × IsLive (st conn)) → (HasCleanDisk (st conn) → FindsIn image (st conn))
    → (IsTrue (st conn).is_open → (m : Map) → MayLeave (st conn) m → CommittedTells (st conn) m)
    → IsBegunBy image path (HasCleanDisk (st kept)) (HoldsMap (st kept) ready) (MayLeave (st kept))
begun_over st image path kept conn ready is unready named opened found settled =
    subst (λ h. IsBegunBy image path (HasCleanDisk (st h)) (HoldsMap (st h) ready) (MayLeave (st h))) (sym is)
    (record {
      named = named;
      held = λ clean m tell. subst (λ r. HoldsMap (st conn) r m) (sym unready) (found_holds image (st conn) m (opened clean).0 (opened clean).1 (found clean) tell);
      alone = λ clean m tell x left. found_alone image (st conn) m (opened clean).0 (opened clean).1 (found clean) tell x (settled (opened clean).0.is_open x left);
    })

-- so it is of the keeper of a path that begins with it
module _ {A B : Type 0} (tells : A → Type 0) (holds passes : A → Map → Type 0) (image : Image) (path : List ℕ) where
  abbrev pub Begun : Option (Opened A B) → Type 0
  Begun = BeginsWith (λ a. IsBegunBy image path (tells a) (holds a) (passes a))

  pub begun_holds : (stored : Option (Opened A B)) → Begun stored → FirstIs tells stored → (m : Map) → FilesTell image m → FirstIs (λ a. holds a m) stored
  begun_holds (Some (First a)) begun told m tell = begun.held told m tell
  begun_holds (Some (Again b)) begun told m tell = absurd begun
  begun_holds None begun told m tell = absurd told

  pub begun_alone : (stored : Option (Opened A B)) → Begun stored → FirstIs tells stored → (m : Map) → FilesTell image m → (x : Map) → FirstIs (λ a. passes a x) stored → x ≡ m
  begun_alone (Some (First a)) begun told m tell x left = begun.alone told m tell x left
  begun_alone (Some (Again b)) begun told m tell x left = absurd begun
  begun_alone None begun told m tell x left = absurd told
