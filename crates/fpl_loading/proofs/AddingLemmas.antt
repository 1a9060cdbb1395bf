-- Commands of the files that go one after another beside what the season has.
use Rattle.std.proofs.Common.{◌≡◌, ◌≤◌, ◌+◌, ◌^◌, ◌-◌, ◌⊎◌, ◌∙◌, Bool, true, false, true≢false, ℕ, List, [], ◌∷◌, Option, None, Result, Ok, Err, MatchBool, MatchOption, MatchResult, IfErr, OnOk, Some, is_err, inl, inr, ap, refl, sym, subst}
use Rattle.fpl_base.specs.Causes.{Rose}
use Rattle.fpl_base.specs.Keeping.{Map}
use Rattle.fpl_base.specs.declared.kinds.Caller.TheVariants as caller
use Rattle.season_book.specs.declared.answer.Answer.{Answer}
use Rattle.season_book.specs.declared.answer.Answer.TheVariants as answer
use Rattle.season_book.specs.declared.command.Command.{Command}
use Rattle.season_book.specs.declared.command.Command.TheVariants as command
use Rattle.season_book.specs.declared.request.Request.{Request}
use Rattle.season_book.specs.declared.request.Request.TheVariants as request
use Rattle.season_book.specs.Verdict.{Failures}
use Rattle.season_keeping.specs.Answering.{IsCaused}
use Rattle.season_running.specs.Standing.{StandsIn, number_at}
use Rattle.request_handler.specs.Replying.{Served}
use Rattle.request_handler.specs.Kept.{Kept, Leads}
use Rattle.request_handler.proofs.KeptLemmas.{leads_on, leads_same}
use Rattle.local_requests.proofs.AskingLemmas.{leads_then, rose_behind}
use Rattle.local_requests.specs.Asking.{IsHeard}
use Rattle.fpl_loading.proofs.LoadingLemmas.{last_stood}
use Rattle.fpl_loading.specs.Loading.{IsLoad}
use Rattle.fpl_loading.specs.More.{AddsOn, CountsRows, IsAdded, IsHeld, IsLoadOfMore, IsStep, LoadsBy, StopsBy, counted, found_lacking, found_there, is_done, nothing_added}
use Rattle.fpl_loading.specs.Notes.{no_place, place_behind}
use Rattle.fpl_loading.specs.Standing.{is_no_season, is_unknown, lacks, rows_in, rows_same, view_of}
use Rattle.fpl_loading.specs.declared.adding.Added.{Added}
use Rattle.fpl_loading.specs.declared.adding.Stop.{Stop}
use Rattle.fpl_loading.specs.declared.adding.Stop.TheVariants as stop
use Rattle.fpl_loading.specs.declared.adding.Tally.{Tally}
use Rattle.fpl_loading.specs.declared.notes.Note.{Note}
use Rattle.fpl_loading.specs.declared.notes.Place.{Place}

-- some of the commands went, the last of them at this place, and these are left: whatever becomes of these is the end of all
abbrev pub On : ℕ → List Command → List Command → Place → Tally → Served → Served → Type 0
On last all rest place tally old mid =
    (before after : Option (List ℕ)) (status : ℕ) (noted : Option Note) (new : Served)
    → AddsOn place rest tally before after status noted mid new → AddsOn no_place all (nothing_added last) before after status noted old new

-- how a load goes on behind a command
abbrev Behind : Place → List Command → Tally → Option (List ℕ) → Option (List ℕ) → ℕ → Option Note → Served → Served → Result Added Stop → Type 0
Behind place commands tally before after status noted mid new gave =
    MatchResult gave
    (λ added. ((new ≡ mid) × (noted ≡ None) × (status ≡ 6) × (after ≡ before)) ⊎ AddsOn place commands (counted tally added) before after status noted mid new)
    (λ why. (new ≡ mid) × StopsBy place tally.differs why status before after noted)

one_goes : (place here : Place) (command : Command) (rest : List Command) (tally : Tally) (gave : Result Added Stop)
    (before after : Option (List ℕ)) (status : ℕ) (noted : Option Note) (old mid new : Served)
    → here ≡ place_behind place command → IsStep tally.number here command gave old mid → Behind here rest tally before after status noted mid new gave
    → AddsOn place (command ∷ rest) tally before after status noted old new
one_goes place here command rest tally gave before after status noted old mid new is step behind =
    (gave, mid, subst (λ (p : Place). IsStep tally.number p command gave old mid) is step, subst (λ (p : Place). Behind p rest tally before after status noted mid new gave) is behind)

module _ (K : Type 0) (tells serves : K → Type 0) (holds passes : K → Map → Type 0) where
  pub adds_start : (last : ℕ) (all : List Command) (tally : Tally) (kept : Kept K) → tally ≡ nothing_added last → Leads tells serves holds passes kept kept (On last all all no_place tally)
  adds_start last all tally kept is =
      leads_same K tells serves holds passes kept (On last all all no_place tally)
      (λ served before after status noted new on. subst (λ (t : Tally). AddsOn no_place all t before after status noted served new) is on)

  module _ (last : ℕ) (all left rest : List Command) (command : Command) (place here : Place) (tally : Tally) (first mid next : Kept K)
      (is : left ≡ command ∷ rest) (placed : here ≡ place_behind place command)
      (so_far : Leads tells serves holds passes first mid (On last all left place tally)) where
    at_one : Leads tells serves holds passes first mid (On last all (command ∷ rest) place tally)
    at_one = subst (λ (xs : List Command). Leads tells serves holds passes first mid (On last all xs place tally)) is so_far

    -- one more went
    pub adds_goes : (added : Added) (behind : Tally) → behind ≡ counted tally added → Leads tells serves holds passes mid next (IsStep tally.number here command (Ok added))
        → Leads tells serves holds passes first next (On last all rest here behind)
    adds_goes added behind counts step =
        subst (λ (t : Tally). Leads tells serves holds passes first next (On last all rest here t)) (sym counts)
        (leads_then K tells serves holds passes first mid next (On last all (command ∷ rest) place tally) (IsStep tally.number here command (Ok added)) (On last all rest here (counted tally added))
        (λ s m b on one before after status noted new more. on before after status noted new (one_goes place here command rest tally (Ok added) before after status noted m b new placed one (inr more)))
        at_one step)

    -- one more went, and there was no memory to keep what it added
    pub adds_lack : (added : Added) (before after : Option (List ℕ)) (status : ℕ) (noted : Option Note) → after ≡ before → status ≡ 6 → noted ≡ None
        → Leads tells serves holds passes mid next (IsStep tally.number here command (Ok added))
        → Leads tells serves holds passes first next (AddsOn no_place all (nothing_added last) before after status noted)
    adds_lack added before after status noted same out none step =
        leads_then K tells serves holds passes first mid next (On last all (command ∷ rest) place tally) (IsStep tally.number here command (Ok added))
        (AddsOn no_place all (nothing_added last) before after status noted)
        (λ s m b on one. on before after status noted b (one_goes place here command rest tally (Ok added) before after status noted m b b placed one (inl (refl, none, out, same))))
        at_one step

    -- one stopped the load
    pub adds_stop : (why : Stop) (before after : Option (List ℕ)) (status : ℕ) (noted : Option Note) → StopsBy here tally.differs why status before after noted
        → Leads tells serves holds passes mid next (IsStep tally.number here command (Err why))
        → Leads tells serves holds passes first next (AddsOn no_place all (nothing_added last) before after status noted)
    adds_stop why before after status noted stops step =
        leads_then K tells serves holds passes first mid next (On last all (command ∷ rest) place tally) (IsStep tally.number here command (Err why))
        (AddsOn no_place all (nothing_added last) before after status noted)
        (λ s m b on one. on before after status noted b (one_goes place here command rest tally (Err why) before after status noted m b b placed one (refl, stops)))
        at_one step

  -- all went
  pub adds_end : (last : ℕ) (all left : List Command) (place : Place) (tally : Tally) (first mid : Kept K) (before after : Option (List ℕ)) (status : ℕ) (noted : Option Note)
      → left ≡ [] → noted ≡ None → CountsRows tally status before after
      → Leads tells serves holds passes first mid (On last all left place tally)
      → Leads tells serves holds passes first mid (AddsOn no_place all (nothing_added last) before after status noted)
  adds_end last all left place tally first mid before after status noted is none counts so_far =
      leads_on K tells serves holds passes first mid (On last all [] place tally) (AddsOn no_place all (nothing_added last) before after status noted)
      (λ s b on. on before after status noted b (refl, none, counts))
      (subst (λ (xs : List Command). Leads tells serves holds passes first mid (On last all xs place tally)) is so_far)

  -- nothing was written before, and the last number is that of each book for which the host stood
  pub more_is : (last : ℕ) (all commands : List Command) (first mid : Kept K) (start before after : Option (List ℕ)) (status : ℕ) (noted : Option Note)
      → last ≡ number_at first.host.rows.lasts caller.Operator → first.host.stale ≡ false → all ≡ commands → before ≡ start
      → Leads tells serves holds passes first mid (AddsOn no_place all (nothing_added last) before after status noted)
      → Leads tells serves holds passes first mid (IsLoadOfMore commands start after status noted)
  more_is last all commands first mid start before after status noted is fresh same unwritten leads = record {
    by_rows = λ served stands. let a = leads.by_rows served stands in (a.0, a.1, by_book served a.0 (stands.rows fresh) a.2);
    by_stops = λ tell served stands. let a = leads.by_stops tell served stands in (a.0, a.1, by_book served a.0 (stands.by_rows.rows fresh) a.2);
    by_records = λ tell serve served stands. let a = leads.by_records tell serve served stands in (a.0, a.1, by_book served a.0 (stands.backs.stands fresh) a.2);
    reread = leads.reread;
    told = leads.told;
    served = leads.served;
  }
    where
      by_book : (served behind : Served) → StandsIn first.host.rows served.host.book → AddsOn no_place all (nothing_added last) before after status noted served behind → IsLoadOfMore commands start after status noted served behind
      by_book served behind stands load =
          subst (λ (n : ℕ). AddsOn no_place commands (nothing_added n) start after status noted served behind) (last_stood first.host.rows served.host.book last is stands)
          (subst (λ (taken : Option (List ℕ)). AddsOn no_place commands (nothing_added last) taken after status noted served behind) unwritten
          (subst (λ (xs : List Command). AddsOn no_place xs (nothing_added last) before after status noted served behind) same load))

  -- ---- one command

  module _ (number : ℕ) (place : Place) (command : Command) (asked : Request) (told : Answer) (first mid : Kept K) (is : asked ≡ request.View (view_of command))
      (heard : Leads tells serves holds passes first mid (λ served behind. IsHeard served caller.Operator asked told behind)) where
    asks : Leads tells serves holds passes first mid (λ served behind. IsHeard served caller.Operator (request.View (view_of command)) told behind)
    asks = subst (λ (r : Request). Leads tells serves holds passes first mid (λ served behind. IsHeard served caller.Operator r told behind)) is heard

    -- the season has it, and its rows were held against that
    pub step_held : (gave : Result Added Stop) → lacks command told ≡ false → IsHeld place command told gave → Leads tells serves holds passes first mid (IsStep number place command gave)
    step_held gave has held =
        leads_on K tells serves holds passes first mid (λ served behind. IsHeard served caller.Operator (request.View (view_of command)) told behind) (IsStep number place command gave)
        (λ s b one. (told, b, one, subst (λ (t : Bool). MatchBool t (IsAdded number command gave b b) ((b ≡ b) × IsHeld place command told gave)) (sym has) (refl, held)))
        asks

    -- the season lacks it
    pub step_added : (gave : Result Added Stop) (next : Kept K) → lacks command told ≡ true → Leads tells serves holds passes mid next (IsAdded number command gave)
        → Leads tells serves holds passes first next (IsStep number place command gave)
    step_added gave next has =
        leads_then K tells serves holds passes first mid next (λ served behind. IsHeard served caller.Operator (request.View (view_of command)) told behind)
        (IsAdded number command gave) (IsStep number place command gave)
        (λ s m b one added. (told, m, one, subst (λ (t : Bool). MatchBool t (IsAdded number command gave m b) ((b ≡ m) × IsHeld place command told gave)) (sym has) added))
        asks

  -- it has no number
  pub added_none : (number : ℕ) (command : Command) (kept : Kept K) → 2 ^ 63 - 1 ≤ number → Leads tells serves holds passes kept kept (IsAdded number command (Err stop.Memory))
  added_none number command kept most = leads_same K tells serves holds passes kept (IsAdded number command (Err stop.Memory)) (λ served. inl (most, refl, refl))

  module _ (number : ℕ) (command : Command) (told : Answer) (gave : Result Added Stop) (first mid : Kept K)
      (heard : Leads tells serves holds passes first mid (λ served behind. IsHeard served caller.Operator (request.Command (number + 1) command) told behind)) where
    pub added_done : is_done told ≡ true → gave ≡ Ok (found_lacking command) → Leads tells serves holds passes first mid (IsAdded number command gave)
    added_done done is =
        leads_on K tells serves holds passes first mid (λ served behind. IsHeard served caller.Operator (request.Command (number + 1) command) told behind) (IsAdded number command gave)
        (λ s b one. inr (told, one, subst (λ (t : Bool). MatchBool t (gave ≡ Ok (found_lacking command)) (gave ≡ Err (stop.Told told))) (sym done) is)) heard

    pub added_not : is_done told ≡ false → gave ≡ Err (stop.Told told) → Leads tells serves holds passes first mid (IsAdded number command gave)
    added_not done is =
        leads_on K tells serves holds passes first mid (λ served behind. IsHeard served caller.Operator (request.Command (number + 1) command) told behind) (IsAdded number command gave)
        (λ s b one. inr (told, one, subst (λ (t : Bool). MatchBool t (gave ≡ Ok (found_lacking command)) (gave ≡ Err (stop.Told told))) (sym done) is)) heard

-- what is loaded by the one way or the other
pub by_more : (K : Type 0) (tells serves : K → Type 0) (holds passes : K → Map → Type 0) (first last : Kept K) (more : Bool) (commands : List Command) (before after : Option (List ℕ)) (status : ℕ) (noted : Option Note)
    → more ≡ true → Leads tells serves holds passes first last (IsLoadOfMore commands before after status noted) → Leads tells serves holds passes first last (LoadsBy more commands before after status noted)
by_more K tells serves holds passes first last more commands before after status noted is leads =
    subst (λ (m : Bool). Leads tells serves holds passes first last (LoadsBy m commands before after status noted)) (sym is) leads

pub by_number : (K : Type 0) (tells serves : K → Type 0) (holds passes : K → Map → Type 0) (first last : Kept K) (more : Bool) (commands : List Command) (before after : Option (List ℕ)) (status : ℕ) (noted : Option Note)
    → more ≡ false → Leads tells serves holds passes first last (IsLoad commands before after status noted) → Leads tells serves holds passes first last (LoadsBy more commands before after status noted)
by_number K tells serves holds passes first last more commands before after status noted is leads =
    subst (λ (m : Bool). Leads tells serves holds passes first last (LoadsBy m commands before after status noted)) (sym is) leads

-- behind an answer that is neither want of memory nor of the keeper the host is fresh
pub fresh_if : (test : Answer → Bool) (stale : Bool) (told : Answer) → test answer.Memory ≡ false → test answer.Keeper ≡ false
    → (stale ≡ true → (told ≡ answer.Memory) ⊎ (told ≡ answer.Keeper)) → test told ≡ true → stale ≡ false
fresh_if test false told memory keeper out is = refl
fresh_if test true told memory keeper out is = absurd (go (out refl))
  where
    go : (told ≡ answer.Memory) ⊎ (told ≡ answer.Keeper) → ⊥
    go (inl e) = true≢false (sym is ∙ ap test e ∙ memory)
    go (inr e) = true≢false (sym is ∙ ap test e ∙ keeper)

-- so it is where rows were held against what was told
ok_not_err : {X E : Type 0} (x : X) (e : E) → Ok x ≡ Err e → ⊥
ok_not_err x e is = cc

not_held : (place : Place) (command : Command) (told : Answer) (added : Added) → rows_same command told ≡ None → IsHeld place command told (Ok added) → ⊥
not_held place command told added none (inl ends) =
    ok_not_err added (stop.Told told)
    (subst (λ (rows : Option (List Bool)). MatchOption rows (◌≡◌ {A = Result Added Stop} (Ok added) (Err (stop.Told told))) (λ r. ◌≡◌ {A = Result Added Stop} (Ok added) (Ok (found_there place r)))) none ends)
not_held place command told added none (inr memory) = ok_not_err added stop.Memory memory

pub fresh_held : (place : Place) (command : Command) (stale : Bool) (told : Answer) (added : Added)
    → (stale ≡ true → (told ≡ answer.Memory) ⊎ (told ≡ answer.Keeper)) → IsHeld place command told (Ok added) → stale ≡ false
fresh_held place command false told added out held = refl
fresh_held place command true told added out held = absurd (go (out refl))
  where
    go : (told ≡ answer.Memory) ⊎ (told ≡ answer.Keeper) → ⊥
    go (inl e) = not_held place command told added (ap (rows_same command) e) held
    go (inr e) = not_held place command told added (ap (rows_same command) e) held

-- the same of whatever came of it
pub held_fresh : (place : Place) (command : Command) (stale : Bool) (told : Answer) (gave : Result Added Stop)
    → (stale ≡ true → (told ≡ answer.Memory) ⊎ (told ≡ answer.Keeper)) → IsHeld place command told gave → OnOk gave (stale ≡ false)
held_fresh place command stale told (Ok added) out held = fresh_held place command stale told added out held
held_fresh place command stale told (Err why) out held = tt

-- and behind an answer by which the season lacks it
pub fresh_lacks : (command : Command) (stale : Bool) (told : Answer) → (stale ≡ true → (told ≡ answer.Memory) ⊎ (told ≡ answer.Keeper)) → lacks command told ≡ true → stale ≡ false
fresh_lacks (command.Season profile deadlines split clubs) stale told out is = fresh_if is_no_season stale told refl refl out is
fresh_lacks (command.Player id name position club price) stale told out is = fresh_if is_unknown stale told refl refl out is
fresh_lacks (command.Fixture id home away g kickoff) stale told out is = fresh_if is_unknown stale told refl refl out is
fresh_lacks command stale told out is = absurd (true≢false (sym is ∙ refl))

told_is : (a b : Answer) → stop.Told a ≡ stop.Told b → a ≡ b
told_is a b is = cc

-- what stopped a load for the keeper's sake is that answer
pub told_keeper : (told : Answer) → stop.Told told ≡ stop.Told answer.Keeper → told ≡ answer.Keeper
told_keeper told is = told_is told answer.Keeper is

err_is : {X E : Type 0} (a b : E) → ◌≡◌ {A = Result X E} (Err a) (Err b) → a ≡ b
err_is a b is = cc

memory_not_told : (told : Answer) → stop.Memory ≡ stop.Told told → ⊥
memory_not_told told is = cc

-- a keeper that failed is told where its count rose
pub held_keeper : (failures : Failures) (place : Place) (command : Command) (told : Answer) (gave : Result Added Stop) → IsCaused failures told → IsHeld place command told gave
    → IfErr gave (λ why. why ≡ stop.Told answer.Keeper → Rose failures.before failures.behind)
held_keeper failures place command told (Ok added) caused held = tt
held_keeper failures place command told (Err why) caused held = λ is. go (rows_same command told) held is
  where
    go : (rows : Option (List Bool)) → MatchOption rows (◌≡◌ {A = Result Added Stop} (Err why) (Err (stop.Told told))) (λ r. ◌≡◌ {A = Result Added Stop} (Err why) (Ok (found_there place r)))
        ⊎ (◌≡◌ {A = Result Added Stop} (Err why) (Err stop.Memory))
        → why ≡ stop.Told answer.Keeper → Rose failures.before failures.behind
    go None (inl ends) is = rose_behind failures told caused (told_is told answer.Keeper (sym (err_is why (stop.Told told) ends) ∙ is))
    go (Some rows) (inl there) is = absurd (ok_not_err (found_there place rows) why (sym there))
    go rows (inr memory) is = absurd (memory_not_told answer.Keeper (sym (err_is why stop.Memory memory) ∙ is))

-- what went well says what it says
pub went_well : {X E P : Type 0} (gave : Result X E) → is_err gave ≡ false → OnOk gave P → P
went_well (Ok x) none on = on
went_well (Err e) none on = absurd (true≢false none)

-- what a command adds that was done
pub lacking_is : (command : Command) (rows : ℕ) (differs : List Place) → rows ≡ rows_in command → differs ≡ []
    → ◌≡◌ {A = Result Added Stop} (Ok (record { asked = 1; loaded = rows; there = 0; differs = differs })) (Ok (found_lacking command))
lacking_is command rows differs many none = rw (many, none) refl

-- before the first command nothing is added
pub nothing_is : (last : ℕ) (differs : List Place) → differs ≡ [] → ◌≡◌ {A = Tally} (record { number = last; loaded = 0; there = 0; differs = differs }) (nothing_added last)
nothing_is last differs none = rw none refl
