-- One step after another inside a transaction, and the whole of it.
use Rattle.std.proofs.Common.{◌≡◌, ◌⊎◌, inl, inr, ℕ, ◌+◌, ◌<◌, List, take, length, get_or, true, false, IsTrue, Ok, Err, Result, OnOk, IfOk, OnErr, refl, sym, ap, subst, ◌∙◌, arith, true≢false}
use Rattle.std.proofs.lemmas.List.Sums.{fold_more}
use Rattle.sqlite_value.specs.Order.{Row}
use Rattle.sqlite_trees.specs.Tree.{Trees}
use Rattle.sqlite_trees.specs.declared.store.Store as store
use Rattle.sqlite.specs.declared.error.Error.{Error}
use Rattle.sqlite.specs.Effect.{Database}
use Rattle.sqlite.specs.State.{State, HasCleanDisk, IsUnchanged, IsRolledBack, KeepsCommit, Executes, ExecutesInside, Survives}
use Rattle.sqlite.specs.Held.{Held, state}
use Rattle.sqlite.specs.Steps.{FailsToCommit}
use Rattle.sqlite.proofs.StateLemmas.{survives_then, survives_weaker}
use Rattle.sqlite.proofs.Callers.{survives_begin}
use Rattle.fpl_base.specs.declared.records.RecordKey.{RecordKey as Key}
use Rattle.fpl_base.specs.declared.records.Op.{Op}
use Rattle.fpl_base.specs.declared.records.Op.TheVariants as op
use Rattle.fpl_base.specs.Keeping.{Map, applied_one, applied}
use Rattle.season_keeper.specs.Rows.{record_values, line_values}
use Rattle.season_keeper.specs.Holding.{Keeps, Inside}
use Rattle.season_keeper.proofs.Texts.{put_record, put_line, delete_record, delete_line}
use Rattle.season_keeper.proofs.Forms.{record_form, line_form}
use Rattle.season_keeper.proofs.Moving.{at_of, key_of_kind}
use Rattle.season_keeper.proofs.Changing.{puts_record, puts_line, deletes_record, deletes_line}

-- ---- the four statements of a change

module _ (old new : State) (count : ℕ) (k : Key) (m : Map) (keeps : Keeps old.now m) where
  pub put_line_step : (body : List ℕ) → k.kind ≡ 5 → Executes put_line (line_values (at_of k) body) old new (Ok count) → Keeps new.now (applied_one m (op.Put k body))
  put_line_step body five h = subst (λ q. Keeps new.now (applied_one m (op.Put q body))) (sym (key_of_kind k five)) (puts_line old new count m keeps (at_of k) body h)

  pub put_record_step : (body : List ℕ) → (k.kind ≡ 5 → ⊥) → Executes put_record (record_values k body) old new (Ok count) → Keeps new.now (applied_one m (op.Put k body))
  put_record_step body other h = puts_record old new count m keeps k body other h

  pub delete_line_step : k.kind ≡ 5 → Executes delete_line ((line_form false).key_row (at_of k)) old new (Ok count) → Keeps new.now (applied_one m (op.Delete k))
  delete_line_step five h = subst (λ q. Keeps new.now (applied_one m (op.Delete q))) (sym (key_of_kind k five)) (deletes_line old new count m keeps (at_of k) h)

  pub delete_record_step : (k.kind ≡ 5 → ⊥) → Executes delete_record ((record_form false).key_row k) old new (Ok count) → Keeps new.now (applied_one m (op.Delete k))
  delete_record_step other h = deletes_record old new count m keeps k other h

-- ---- steps

-- a statement inside a transaction
pub statement_inside : (old new : State) (sql : List ℕ) (params : Row) (r : Result ℕ Error) (made : Database → Type 0) → ExecutesInside 0 sql params old new r → ((count : ℕ) → Executes sql params old new (Ok count) → made new.now)
    → OnOk r (Inside old new made)
statement_inside old new sql params (Ok count) made ran step = record { was_open = λ _. ran.1.was_open; mode = ran.1.mode; committed = ran.1.committed_is; makes = step count ran.0 }
statement_inside old new sql params (Err e) made ran step = tt

-- one statement and the next
pub two_inside : (old mid new : State) (sql other : List ℕ) (params more : Row) (count : ℕ) (r : Result ℕ Error) (made : Database → Type 0) → ExecutesInside 0 sql params old mid (Ok count)
    → ExecutesInside 0 other more mid new r → ((last : ℕ) → Executes sql params old mid (Ok count) → Executes other more mid new (Ok last) → made new.now) → OnOk r (Inside old new made)
two_inside old mid new sql other params more count (Ok last) made one two step = record {
  was_open = λ _. one.1.was_open;
  mode = two.1.mode;
  committed = two.1.committed_is ∙ one.1.committed_is;
  makes = step last one.0 two.0;
}
two_inside old mid new sql other params more count (Err e) made one two step = tt

-- one step and the next
pub inside_then : (old mid new : State) (one two both : Database → Type 0) → Inside old mid one → Inside mid new two → (one mid.now → two new.now → both new.now) → Inside old new both
inside_then old mid new one two both p q join =
    record { was_open = λ open_. p.was_open (q.was_open open_); mode = q.mode; committed = q.committed ∙ p.committed; makes = join p.makes q.makes }

-- so it has committed nothing
pub still_kept : (mid new : State) → IsUnchanged mid new ⊎ IsRolledBack mid new → KeepsCommit mid new
still_kept mid new (inl same) = record { was_open = λ _. same.0.was_open; committed = λ _. same.0.committed_is }
still_kept mid new (inr back) = record { was_open = back.was_open; committed = λ open_. (back.undone open_).1 }

pub inside_kept : (old mid new : State) (made : Database → Type 0) → Inside old mid made → KeepsCommit mid new → KeepsCommit old new
inside_kept old mid new made it kept = record { was_open = λ open_. it.was_open (kept.was_open open_); committed = λ open_. kept.committed open_ ∙ it.committed }

pub inside_commit : (old new : State) (made : Database → Type 0) → Inside old new made → KeepsCommit old new
inside_commit old new made it = record { was_open = it.was_open; committed = λ _. it.committed }

-- ---- the transaction

-- the changes are made to each map that the tables kept
abbrev pub Applied : Database → List Op → Database → Type 0
Applied before ops db = (m : Map) → Keeps before m → Keeps db (applied m ops)

-- a transaction begins as the connection was
module _ {S : Type 0} (g : store.Ghosts S) (conn begun new : Held S) (is : begun ≡ record conn { in_transaction = true }) where
  pub begun_inside : (made : Database → Database → Type 0) → (IsTrue (state g begun).in_transaction → Inside (state g begun) (state g new) (made (state g begun).now)) → Inside (state g conn) (state g new) (made (state g conn).now)
  begun_inside made step =
      let it = subst (λ (h : Held S). Inside (state g h) (state g new) (made (state g h).now)) is (step (ap (λ (h : Held S). h.in_transaction) is)) in
      record { was_open = it.was_open; mode = it.mode; committed = it.committed; makes = it.makes }

  pub begun_survives : Survives (state g begun) (state g new) (λ _. ⊥) → Survives (state g (record conn { in_transaction = true })) (state g new) (λ _. ⊥)
  begun_survives survives = subst (λ (h : Held S). Survives (state g h) (state g new) (λ _. ⊥)) is survives

pub survives_same : (s : State) → Survives s s (λ _. ⊥)
survives_same s = record { clean = omega arith; shield = λ h. h; counts = omega arith; limit = refl; closes = λ _ open_. inl open_; crash = λ _ db h. inl h }

pub survives_both : (a b c : State) → Survives a b (λ _. ⊥) → Survives b c (λ _. ⊥) → Survives a c (λ _. ⊥)
survives_both a b c p q = survives_then a b c _ _ (λ _. ⊥) (λ _ db none. none) (λ _ db none. none) p q

pub applied_more : (old mid new : State) (ops : List Op) (i : ℕ) (op : Op) → i < length ops → op ≡ get_or ops i op → Inside old mid (Applied old.now (take i ops))
    → Inside mid new (λ db. (m : Map) → Keeps mid.now m → Keeps db (applied_one m op)) → Inside old new (Applied old.now (take (i + 1) ops))
applied_more old mid new ops i op low is it step =
    inside_then old mid new _ _ _ it step
    (λ before after m keeps. subst (Keeps new.now) (ap (applied_one (applied m (take i ops))) is ∙ sym (fold_more applied_one m ops i op low)) (after (applied m (take i ops)) (before m keeps)))

-- it was given up
pub given_up : (old mid failed new : State) (made : Database → Type 0) → (IsTrue old.is_open → old.now ≡ old.committed) → Inside old mid made → KeepsCommit mid failed → IsRolledBack failed new → IsTrue new.is_open
    → (new.now ≡ old.now) × (new.committed ≡ old.committed)
given_up old mid failed new made settled it kept back open_ =
    let still = back.was_open open_ in
    let same : failed.committed ≡ old.committed = kept.committed still ∙ it.committed in
    ((back.undone open_).0 ∙ same ∙ sym (settled (it.was_open (kept.was_open still))), (back.undone open_).1 ∙ same)

pub on_ok : {T E : Type 0} {P Q : Type 0} (r : Result T E) → (P → Q) → OnOk r P → OnOk r Q
on_ok (Ok x) f p = f p
on_ok (Err e) f p = tt

pub ok_both : {T E : Type 0} {A : Type 0} {P Q : T → Type 0} (r : Result T E) → OnOk r A → IfOk r P → ((x : T) → A → P x → Q x) → IfOk r Q
ok_both (Ok x) a p f = f x a p
ok_both (Err e) a p f = tt

pub so_ok : {T E : Type 0} {P : Type 0} (r : Result T E) → P → OnOk r P
so_ok (Ok x) p = p
so_ok (Err e) p = tt

pub on_err : {T E : Type 0} {P : Type 0} (r : Result T E) → P → OnErr r P
on_err (Ok x) p = tt
on_err (Err e) p = p

pub crash_none : (a b : State) (P : Trees → Type 0) → Survives a b (λ _. ⊥) → Survives a b P
crash_none a b P s = survives_weaker a b _ P (λ _ db none. absurd none) s

pub given_up_crash : {S : Type 0} (g : store.Ghosts S) (old mid failed new : Held S) (P : Trees → Type 0) → Survives (state g (record old { in_transaction = true })) (state g mid) (λ _. ⊥)
    → Survives (state g mid) (state g failed) (λ _. ⊥) → Survives (state g failed) (state g new) (λ _. ⊥) → Survives (state g old) (state g new) P
given_up_crash g old mid failed new P p q r =
    survives_begin g old (state g new) P (crash_none _ _ P (survives_both _ _ _ p (survives_both _ _ _ q r)))

-- a commit that failed has committed nothing
pub commit_failed : (old mid new : State) (e : Error) (made : Database → Type 0) → (IsTrue old.is_open → old.now ≡ old.committed) → Inside old mid made → FailsToCommit mid new e → IsTrue new.is_open
    → (new.now ≡ old.now) × (new.committed ≡ old.committed)
commit_failed old mid new e made settled it (inl failed) open_ =
    let back = failed.3 in ((back.undone open_).0 ∙ it.committed ∙ sym (settled (it.was_open (back.was_open open_))), (back.undone open_).1 ∙ it.committed)
commit_failed old mid new e made settled it (inr late) open_ = absurd (true≢false (sym it.mode ∙ late.1))

-- what a crash may leave beside what it could leave before
abbrev pub Leaves : (Database → Type 0) → Trees → Type 0
Leaves made trees = (db : Database) × (trees ≡ db.trees) × made db

pub commit_crash : {S : Type 0} (g : store.Ghosts S) (old mid new : Held S) (made : Database → Type 0) → Survives (state g (record old { in_transaction = true })) (state g mid) (λ _. ⊥)
    → Survives (state g mid) (state g new) (λ db. db ≡ (state g mid).now.trees) → (HasCleanDisk (state g mid) → Inside (state g old) (state g mid) made) → Survives (state g old) (state g new) (Leaves made)
commit_crash g old mid new made before last inside =
    let P = Leaves made in
    survives_begin g old (state g new) P (survives_then (state g (record old { in_transaction = true })) (state g mid) (state g new) _ _ P (λ _ db none. absurd none)
    (λ clean db is. ((state g mid).now, is, (inside (omega (arith, last.clean))).makes)) before last)

pub commit_was_open : (mid new : State) (e : Error) → IsTrue mid.in_transaction → FailsToCommit mid new e → IsTrue new.is_open → IsTrue mid.is_open
commit_was_open mid new e mode (inl failed) open_ = failed.3.was_open open_
commit_was_open mid new e mode (inr late) open_ = absurd (true≢false (sym mode ∙ late.1))
