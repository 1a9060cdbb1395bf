-- What is done with an open store is what a keeper says of its records.
use Rattle.std.proofs.Common.{◌≡◌, inl, inr, ℕ, List, Option, Some, None, Ok, Err, IfOk, sym, subst, true≢false}
use Rattle.std.specs.Prelude.{IsErr}
use Rattle.fpl_base.specs.Keeping.{Map, KeysRise}
use Rattle.fpl_base.specs.declared.outside.Keeper.{Ghosts}
use Rattle.fpl_base.specs.declared.records.Op.{Op}
use Rattle.record_keepers.specs.declared.opened.Opened.{Opened}
use Rattle.record_keepers.specs.declared.opened.Opened.TheVariants.{First, Again}
use Rattle.record_keepers.specs.Filing.{Loaded, Committed, Loads, Commits, LoadsIn, CommitsIn, CommitsTo, PathLoads, Filed, FirstIs, IsOpenFor, stored_behind}

module _ {A B : Type 0} (f : Ghosts A) (g : Ghosts B) where
  abbrev Tells : Option (Opened A B) → Type 0
  Tells = FirstIs f.tells

  abbrev Serves : Option (Opened A B) → Type 0
  Serves = FirstIs f.serves

  abbrev Holds : Option (Opened A B) → Map → Type 0
  Holds stored m = FirstIs (λ a. f.holds a m) stored

  abbrev Passes : Option (Opened A B) → Map → Type 0
  Passes stored m = FirstIs (λ a. f.passes a m) stored

  abbrev pub StoredLoads : Option (Opened A B) → Option (Opened A B) → Loaded → Type 0
  StoredLoads = λ before after. Loads Tells Serves Holds Passes before after

  abbrev pub StoredCommits : Option (Opened A B) → Option (Opened A B) → List Op → Committed → Type 0
  StoredCommits = λ before after. Commits Tells Serves Holds Passes before after

  -- behind which nothing is told, there is nothing to say
  untold_load : (before after : Option (Opened A B)) (result : Loaded) → (Tells after → ⊥) → StoredLoads before after result
  untold_load before after (Ok pairs) none = record {
    gave = λ tells. absurd (none tells);
    alone = λ tells. absurd (none tells);
    done = λ tells. absurd (none tells);
    kept = tt;
    stops = λ tells. absurd (none tells);
    told = λ tells. absurd (none tells);
    served = λ tells. absurd (none tells);
    serving = λ tells. absurd (none tells);
  }
  untold_load before after (Err why) none = record {
    gave = tt;
    alone = tt;
    done = tt;
    kept = λ tells. absurd (none tells);
    stops = λ tells. absurd (none tells);
    told = λ tells. absurd (none tells);
    served = λ tells. absurd (none tells);
    serving = tt;
  }

  untold_commit : (before after : Option (Opened A B)) (ops : List Op) (result : Committed) → (Tells after → ⊥) → StoredCommits before after ops result
  untold_commit before after ops (Ok it) none = record {
    done = λ tells. absurd (none tells);
    alone = λ tells. absurd (none tells);
    failed = tt;
    kept = λ is tells. absurd (none tells);
    stops = λ tells. absurd (none tells);
    told = λ tells. absurd (none tells);
    served = λ tells. absurd (none tells);
    serving = λ tells. absurd (none tells);
  }
  untold_commit before after ops (Err why) none = record {
    done = tt;
    alone = tt;
    failed = λ tells. absurd (none tells);
    kept = λ is tells. absurd (none tells);
    stops = λ tells. absurd (none tells);
    told = λ tells. absurd (none tells);
    served = λ tells. absurd (none tells);
    serving = tt;
  }

  -- the call on the store that is open
  loads_in : (before after : Opened A B) (result : Loaded) → LoadsIn f g before after result → StoredLoads (Some before) (stored_behind result after) result
  loads_in (First a) (First b) (Ok pairs) it = record {
    gave = it.loads.gave;
    alone = it.loads.alone;
    done = it.loads.done;
    kept = tt;
    stops = it.loads.stops;
    told = it.loads.told;
    served = it.loads.served;
    serving = it.loads.serving;
  }
  loads_in (Again a) (Again b) (Ok pairs) it = untold_load (Some (Again a)) (Some (Again b)) (Ok pairs) (λ none. none)
  loads_in (First a) (Again b) (Ok pairs) it = absurd it
  loads_in (Again a) (First b) (Ok pairs) it = absurd it
  loads_in before after (Err why) it = untold_load (Some before) None (Err why) (λ none. none)

  commits_in : (before after : Opened A B) (ops : List Op) (result : Committed) → CommitsIn f g before after ops result → StoredCommits (Some before) (stored_behind result after) ops result
  commits_in (First a) (First b) ops (Ok done) it = record {
    done = it.commits.done;
    alone = it.commits.alone;
    failed = tt;
    kept = it.commits.kept;
    stops = it.commits.stops;
    told = it.commits.told;
    served = it.commits.served;
    serving = it.commits.serving;
  }
  commits_in (Again a) (Again b) ops (Ok done) it = untold_commit (Some (Again a)) (Some (Again b)) ops (Ok done) (λ none. none)
  commits_in (First a) (Again b) ops (Ok done) it = absurd it
  commits_in (Again a) (First b) ops (Ok done) it = absurd it
  commits_in before after ops (Err why) it = untold_commit (Some before) None ops (Err why) (λ none. none)

  pub commits_to : (before stored : Option (Opened A B)) (ops : List Op) (result : Committed) → CommitsTo f g before stored ops result → StoredCommits before stored ops result
  commits_to (Some before) stored ops result it = subst (λ s. StoredCommits (Some before) s ops result) (sym it.2) (commits_in before it.0 ops result it.1)
  commits_to None stored ops result it = untold_commit None stored ops result (λ tells. subst Tells it.1 tells)

  pub commits_of : (s stored : Option (Opened A B)) (before after : Opened A B) (ops : List Op) (result : Committed) → s ≡ Some before → CommitsIn f g before after ops result
      → stored ≡ stored_behind result after → CommitsTo f g s stored ops result
  commits_of s stored before after ops result is it same = subst (λ o. CommitsTo f g o stored ops result) (sym is) (after, it, same)

  again : (b : B) (after : Opened A B) (result : Loaded) → LoadsIn f g (Again b) after result → Tells (stored_behind result after) → ⊥
  again b (First a) (Ok pairs) it tells = absurd it
  again b (Again a) (Ok pairs) it tells = tells
  again b after (Err why) it tells = tells

  opened_load : {O : Type 0} (opens : O → O → List ℕ → B → Type 0) (fails : O → ℕ) (path : List ℕ) (stored : Option (Opened A B)) (o p : O) (before after : Opened A B) (result : Loaded)
      → IsOpenFor opens fails path stored o p before → LoadsIn f g before after result → StoredLoads stored (stored_behind result after) result
  opened_load opens fails path (Some s) o p before after result is_open it = subst (λ s. StoredLoads (Some s) (stored_behind result after) result) is_open.0 (loads_in before after result it)
  opened_load opens fails path None o p before after result is_open it =
      untold_load None (stored_behind result after) result (again is_open.0 after result (subst (λ b. LoadsIn f g b after result) is_open.1 it))

  rises_in : (before after : Opened A B) (result : Loaded) → LoadsIn f g before after result → IfOk result (λ pairs. KeysRise pairs.items)
  rises_in (First a) (First b) result it = it.rise
  rises_in (Again a) (Again b) result it = it.rise
  rises_in (First a) (Again b) result it = absurd it
  rises_in (Again a) (First b) result it = absurd it

  on_err : (result : Loaded) → IsErr result → IfOk result (λ pairs. KeysRise pairs.items)
  on_err (Ok pairs) h = absurd (true≢false (sym h))
  on_err (Err why) h = tt

  pub file_loads : {O : Type 0} (opens : O → O → List ℕ → B → Type 0) (fails : O → ℕ) (old new : Filed A B O) (result : Loaded) → PathLoads f g opens fails old new result → StoredLoads old.stored new.stored result
  file_loads opens fails old new result it = elim it.2 [
    | inl h ↦ subst (λ s. StoredLoads old.stored s result) (sym h.4) (opened_load opens fails old.path old.stored old.opening new.opening h.0 h.1 result h.2 h.3)
    | inr h ↦ untold_load old.stored new.stored result (λ tells. subst Tells h.1 tells)
  ]

  pub file_rises : {O : Type 0} (opens : O → O → List ℕ → B → Type 0) (fails : O → ℕ) (old new : Filed A B O) (result : Loaded) → PathLoads f g opens fails old new result → IfOk result (λ pairs. KeysRise pairs.items)
  file_rises opens fails old new result it = elim it.2 [ inl h ↦ rises_in h.0 h.1 result h.3 | inr h ↦ on_err result h.0.1 ]
