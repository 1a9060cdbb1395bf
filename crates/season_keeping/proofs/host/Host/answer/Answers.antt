use Rattle.std.proofs.Common.{◌⊎◌, ◌≡◌, ℕ, List, ap, subst, sym}
use Rattle.season_book.specs.Doing.{IsOutLate}
use Rattle.season_book.specs.Verdict.{Failures, MayAnswer, pass}
use Rattle.season_book.specs.declared.answer.Answer.{Answer}
use Rattle.season_running.specs.Standing.{HostRows}
use Rattle.season_host.specs.Accepted.{locks_more}
use Rattle.season_keeping.specs.Answering.{AreCorrectedBoth, HoldsKept, IsCaused, MayEnd, MayRest, ReadsFew, WouldChange}
use Rattle.season_keeping.proofs.Counting.{cheap_from, few_from, leaves_from, passes_as, passes_from}
use Rattle.season_keeping.proofs.Acting.{backs_between, kept_of_commit, kept_of_ending, left_of_kept, stands_between, then_leads}
use Rattle.season_keeping.proofs.Ending.{caused_fault, change_of_act, change_of_lock, fails_by, leads_map, may_behind, may_of_lock, ok_is}
use Rattle.season_keeping.proofs.Leading.{is_fresh}
use Rattle.season_keeping.proofs.host.Host.answer.Goals as goal

pub returns-in-Ok-clause-answered : goal.returns-in-Ok-clause-answered
returns-in-Ok-clause-answered g c = λ book stands.
    let old = c.args.self.now in
    let mid = c.lock.new.self in
    let new = c.answer_locked.new.self in
    let first = c.args.keeper.now in
    let middle = c.lock.new.keeper in
    let last = c.answer_locked.new.keeper in
    let here = pass book c.args.now in
    let own = ap (λ (rows : HostRows). rows.operator) c.lock.ensures.rows in
    let one = c.in-Ok.ensures.locked book stands in
    let stood = stands_between _ g.K.Keeper.tells g.K.Keeper.serves g.K.Keeper.holds g.K.Keeper.passes first middle last old mid new book here
    c.in-Ok.ensures.ok c.answer_locked.ensures.later.1 c.answer_locked.ensures.later.2 one in
    let failures : Failures = record { before = g.K.Keeper.faults first; behind = g.K.Keeper.faults last } in
    let two = c.answer_locked.ensures.answered here stood in
    then_leads _ g.K.Keeper.tells g.K.Keeper.serves g.K.Keeper.holds g.K.Keeper.passes first middle last old mid new book here
    c.in-Ok.ensures.ok c.answer_locked.ensures.later.1 c.answer_locked.ensures.later.2 one
    (λ left. MayEnd mid.rows.operator (record { before = g.K.Keeper.faults middle; behind = g.K.Keeper.faults last }) here c.args.caller c.args.now c.args.request.now c.answer_locked.result left)
    (λ left. MayAnswer old.rows.operator failures book c.args.caller c.args.now c.args.request.now c.answer_locked.result left)
    (may_behind old.rows.operator mid.rows.operator (g.K.Keeper.faults first) (g.K.Keeper.faults middle) (g.K.Keeper.faults last) book c.args.caller c.args.now c.args.request.now c.answer_locked.result own
    c.lock.ensures.cause.later) two

pub returns-in-Err-clause-answered : goal.returns-in-Err-clause-answered
returns-in-Err-clause-answered g c = λ book stands.
    let operator = c.args.self.now.rows.operator in
    let failures : Failures = record { before = g.K.Keeper.faults c.args.keeper.now; behind = g.K.Keeper.faults c.lock.new.keeper } in
    let fails = fails_by c.lock.result c.in-Err.fault (g.K.Keeper.faults c.args.keeper.now) (g.K.Keeper.faults c.lock.new.keeper) c.in-Err.is c.lock.ensures.cause in
    leads_map _ g.K.Keeper.tells g.K.Keeper.serves g.K.Keeper.holds g.K.Keeper.passes c.args.keeper.now c.lock.new.keeper c.args.self.now c.lock.new.self book
    (λ left. (left ≡ book) ⊎ (left ≡ pass book c.args.now))
    (λ left. MayAnswer operator failures book c.args.caller c.args.now c.args.request.now c.fault_answer.result left)
    (λ left either. subst (λ (a : Answer). MayAnswer operator failures book c.args.caller c.args.now c.args.request.now a left) (sym c.fault_answer.ensures)
    (may_of_lock operator failures book c.args.caller c.args.now c.args.request.now c.in-Err.fault left fails either))
    (c.in-Err.ensures.locked book stands)

pub returns-in-Ok-clause-isolated : goal.returns-in-Ok-clause-isolated
returns-in-Ok-clause-isolated g c = λ no_memory no_keeper book stands.
    let old = c.args.self.now in
    let mid = c.lock.new.self in
    let new = c.answer_locked.new.self in
    let first = c.args.keeper.now in
    let middle = c.lock.new.keeper in
    let last = c.answer_locked.new.keeper in
    let here = pass book c.args.now in
    let own = ap (λ (rows : HostRows). rows.operator) c.lock.ensures.rows in
    let one = c.in-Ok.ensures.locked book stands in
    let stood = stands_between _ g.K.Keeper.tells g.K.Keeper.serves g.K.Keeper.holds g.K.Keeper.passes first middle last old mid new book here
    c.in-Ok.ensures.ok c.answer_locked.ensures.later.1 c.answer_locked.ensures.later.2 one in
    let failures : Failures = record { before = g.K.Keeper.faults first; behind = g.K.Keeper.faults last } in
    let two = c.answer_locked.ensures.answered here stood in
    c.answers_are_isolated.ensures old.rows.operator failures book c.args.caller c.args.now c.args.request.now c.answer_locked.result two.by_rows.0
    ((may_behind old.rows.operator mid.rows.operator (g.K.Keeper.faults first) (g.K.Keeper.faults middle) (g.K.Keeper.faults last) book c.args.caller c.args.now c.args.request.now c.answer_locked.result own
    c.lock.ensures.cause.later) two.by_rows.0 two.by_rows.2) no_memory no_keeper

pub returns-in-Ok-clause-late : goal.returns-in-Ok-clause-late
returns-in-Ok-clause-late g c = λ is book stands.
    let old = c.args.self.now in
    let mid = c.lock.new.self in
    let new = c.answer_locked.new.self in
    let first = c.args.keeper.now in
    let middle = c.lock.new.keeper in
    let last = c.answer_locked.new.keeper in
    let here = pass book c.args.now in
    let own = ap (λ (rows : HostRows). rows.operator) c.lock.ensures.rows in
    let one = c.in-Ok.ensures.locked book stands in
    let stood = stands_between _ g.K.Keeper.tells g.K.Keeper.serves g.K.Keeper.holds g.K.Keeper.passes first middle last old mid new book here
    c.in-Ok.ensures.ok c.answer_locked.ensures.later.1 c.answer_locked.ensures.later.2 one in
    subst (λ (operator : List ℕ). IsOutLate operator here c.args.caller c.args.now c.args.request.now c.answer_locked.result) own (c.answer_locked.ensures.late here stood)

pub returns-in-Ok-clause-granted : goal.returns-in-Ok-clause-granted
returns-in-Ok-clause-granted g c = λ is book stands.
    let old = c.args.self.now in
    let mid = c.lock.new.self in
    let new = c.answer_locked.new.self in
    let first = c.args.keeper.now in
    let middle = c.lock.new.keeper in
    let last = c.answer_locked.new.keeper in
    let here = pass book c.args.now in
    let own = ap (λ (rows : HostRows). rows.operator) c.lock.ensures.rows in
    let one = c.in-Ok.ensures.locked book stands in
    let stood = stands_between _ g.K.Keeper.tells g.K.Keeper.serves g.K.Keeper.holds g.K.Keeper.passes first middle last old mid new book here
    c.in-Ok.ensures.ok c.answer_locked.ensures.later.1 c.answer_locked.ensures.later.2 one in
    subst (λ (operator : List ℕ). IsOutLate operator here c.args.caller c.args.now c.args.request.now c.answer_locked.result) own (c.answer_locked.ensures.late here stood)

pub returns-in-Err-clause-granted : goal.returns-in-Err-clause-granted
returns-in-Err-clause-granted g c = λ is book stands. is_fresh (locks_more c.args.self.now.rows.facts c.args.now) c.in-Err.ensures.more is

pub returns-in-Ok-clause-changes : goal.returns-in-Ok-clause-changes
returns-in-Ok-clause-changes g c = λ is book stands.
    let old = c.args.self.now in
    let mid = c.lock.new.self in
    let new = c.answer_locked.new.self in
    let first = c.args.keeper.now in
    let middle = c.lock.new.keeper in
    let last = c.answer_locked.new.keeper in
    let here = pass book c.args.now in
    let own = ap (λ (rows : HostRows). rows.operator) c.lock.ensures.rows in
    let one = c.in-Ok.ensures.locked book stands in
    let stood = stands_between _ g.K.Keeper.tells g.K.Keeper.serves g.K.Keeper.holds g.K.Keeper.passes first middle last old mid new book here
    c.in-Ok.ensures.ok c.answer_locked.ensures.later.1 c.answer_locked.ensures.later.2 one in
    subst (λ (operator : List ℕ). WouldChange operator book c.args.caller c.args.now c.args.request.now) own
    (change_of_act mid.rows.operator book c.args.caller c.args.now c.args.request.now (c.answer_locked.ensures.acts is here stood))

pub returns-in-Err-clause-changes : goal.returns-in-Err-clause-changes
returns-in-Err-clause-changes g c = λ is book stands.
    change_of_lock c.args.self.now.rows.operator book c.args.caller c.args.now c.args.request.now (c.in-Err.ensures.locks book stands)

pub returns-in-Ok-clause-restarts : goal.returns-in-Ok-clause-restarts
returns-in-Ok-clause-restarts g c = λ book stands tell backs x passed.
    let old = c.args.self.now in
    let mid = c.lock.new.self in
    let new = c.answer_locked.new.self in
    let first = c.args.keeper.now in
    let middle = c.lock.new.keeper in
    let last = c.answer_locked.new.keeper in
    let here = pass book c.args.now in
    let own = ap (λ (rows : HostRows). rows.operator) c.lock.ensures.rows in
    let one = c.in-Ok.ensures.locked book stands in
    let stood = stands_between _ g.K.Keeper.tells g.K.Keeper.serves g.K.Keeper.holds g.K.Keeper.passes first middle last old mid new book here
    c.in-Ok.ensures.ok c.answer_locked.ensures.later.1 c.answer_locked.ensures.later.2 one in
    let held = backs_between _ g.K.Keeper.tells g.K.Keeper.serves g.K.Keeper.holds g.K.Keeper.passes first middle last old mid new book here
    c.in-Ok.ensures.ok c.answer_locked.ensures.later.1 c.answer_locked.ensures.later.2 one tell backs in
    subst (λ (operator : List ℕ). HoldsKept operator book c.args.caller c.args.now c.args.request.now x) own
    (kept_of_ending mid.rows.operator book c.args.caller c.args.now c.args.request.now x held.keepable (c.answer_locked.ensures.stops here stood tell held x passed))

pub returns-in-Err-clause-restarts : goal.returns-in-Err-clause-restarts
returns-in-Err-clause-restarts g c = λ book stands tell backs x passed.
    kept_of_commit c.args.self.now.rows.operator book c.args.caller c.args.now c.args.request.now x backs.keepable (c.in-Err.ensures.stops book stands tell backs x passed)

pub returns-in-Ok-clause-stops : goal.returns-in-Ok-clause-stops
returns-in-Ok-clause-stops g c = λ book stands tell backs x passed.
    left_of_kept c.args.self.now.rows.operator book c.args.caller c.args.now c.args.request.now x (returns-in-Ok-clause-restarts g c book stands tell backs x passed)

pub returns-in-Err-clause-stops : goal.returns-in-Err-clause-stops
returns-in-Err-clause-stops g c = λ book stands tell backs x passed.
    left_of_kept c.args.self.now.rows.operator book c.args.caller c.args.now c.args.request.now x (returns-in-Err-clause-restarts g c book stands tell backs x passed)

pub returns-in-Ok-clause-caused : goal.returns-in-Ok-clause-caused
returns-in-Ok-clause-caused g c =
    subst (λ (n : ℕ). IsCaused (record { before = n; behind = g.K.Keeper.faults c.answer_locked.new.keeper }) c.answer_locked.result)
    (ok_is c.lock.result _ c.in-Ok.is c.lock.ensures.cause.ok) c.answer_locked.ensures.caused

pub returns-in-Err-clause-caused : goal.returns-in-Err-clause-caused
returns-in-Err-clause-caused g c =
    let failures : Failures = record { before = g.K.Keeper.faults c.args.keeper.now; behind = g.K.Keeper.faults c.lock.new.keeper } in
    subst (λ (a : Answer). IsCaused failures a) (sym c.fault_answer.ensures)
    (caused_fault c.lock.result c.in-Err.fault (g.K.Keeper.faults c.args.keeper.now) (g.K.Keeper.faults c.lock.new.keeper) c.in-Err.is c.lock.ensures.cause)

pub returns-in-Ok-clause-cheap : goal.returns-in-Ok-clause-cheap
returns-in-Ok-clause-cheap g c = λ is fresh.
    cheap_from c.args.self.now.rows c.lock.new.self.rows c.answer_locked.new.self.rows c.args.request.now c.args.steps.now c.lock.new.steps c.answer_locked.new.steps
    (c.lock.ensures.unlocked is).1 (c.lock.ensures.still is) (c.answer_locked.ensures.cheap fresh)

pub returns-in-Ok-clause-refused : goal.returns-in-Ok-clause-refused
returns-in-Ok-clause-refused g c = λ is some book stands rest.
    let old = c.args.self.now in
    let mid = c.lock.new.self in
    let new = c.answer_locked.new.self in
    let here = pass book c.args.now in
    let own = ap (λ (rows : HostRows). rows.operator) c.lock.ensures.rows in
    let one = c.in-Ok.ensures.locked book stands in
    let stood = stands_between _ g.K.Keeper.tells g.K.Keeper.serves g.K.Keeper.holds g.K.Keeper.passes c.args.keeper.now c.lock.new.keeper c.answer_locked.new.keeper old mid new book here
    c.in-Ok.ensures.ok c.answer_locked.ensures.later.1 c.answer_locked.ensures.later.2 one in
    few_from c.args.request.now c.args.steps.now c.lock.new.steps c.answer_locked.new.steps (c.lock.ensures.still is)
    (c.answer_locked.ensures.refused some here stood
    (subst (λ (operator : List ℕ). MayRest operator here c.args.caller c.args.now c.args.request.now) (sym own) rest))

pub returns-in-Err-clause-refused : goal.returns-in-Err-clause-refused
returns-in-Err-clause-refused g c = λ is some book stands rest. is_fresh (locks_more c.args.self.now.rows.facts c.args.now) c.in-Err.ensures.more is

pub returns-in-Err-clause-cheap : goal.returns-in-Err-clause-cheap
returns-in-Err-clause-cheap g c = λ is fresh. is_fresh (locks_more c.args.self.now.rows.facts c.args.now) c.in-Err.ensures.more is

pub returns-in-Ok-clause-views : goal.returns-in-Ok-clause-views
returns-in-Ok-clause-views g c = λ is book stands.
    let old = c.args.self.now in
    let mid = c.lock.new.self in
    let new = c.answer_locked.new.self in
    let first = c.args.keeper.now in
    let middle = c.lock.new.keeper in
    let last = c.answer_locked.new.keeper in
    let here = pass book c.args.now in
    let one = c.in-Ok.ensures.locked book stands in
    let stood = stands_between _ g.K.Keeper.tells g.K.Keeper.serves g.K.Keeper.holds g.K.Keeper.passes first middle last old mid new book here
    c.in-Ok.ensures.ok c.answer_locked.ensures.later.1 c.answer_locked.ensures.later.2 one in
    subst (λ (n : ℕ). ReadsFew here c.args.caller c.args.request.now n c.answer_locked.new.steps) (c.lock.ensures.still is) (c.answer_locked.ensures.views here stood)

pub returns-in-Err-clause-views : goal.returns-in-Err-clause-views
returns-in-Err-clause-views g c = λ is book stands. is_fresh (locks_more c.args.self.now.rows.facts c.args.now) c.in-Err.ensures.more is

pub returns-in-Ok-clause-looks : goal.returns-in-Ok-clause-looks
returns-in-Ok-clause-looks g c = λ is.
    let stays = c.lock.ensures.rests is in
    leaves_from _ c.args.request.now c.args.keeper.now c.lock.new.keeper c.answer_locked.new.keeper c.args.self.now c.lock.new.self c.answer_locked.new.self
    stays.0 stays.1 c.answer_locked.ensures.looks

pub returns-in-Err-clause-looks : goal.returns-in-Err-clause-looks
returns-in-Err-clause-looks g c = λ is. is_fresh (locks_more c.args.self.now.rows.facts c.args.now) c.in-Err.ensures.more is

pub returns-in-Ok-clause-passes : goal.returns-in-Ok-clause-passes
returns-in-Ok-clause-passes g c =
    passes_from _ c.args.request.now c.args.now c.lock.new.keeper c.answer_locked.new.keeper c.args.self.now.rows c.lock.new.self c.answer_locked.new.self
    c.lock.ensures.rows c.answer_locked.ensures.looks

pub returns-in-Err-clause-passes : goal.returns-in-Err-clause-passes
returns-in-Err-clause-passes g c = passes_as c.args.request.now c.args.now c.args.self.now.rows c.lock.new.self.rows c.lock.ensures.rows

pub returns-in-Ok-clause-locked : goal.returns-in-Ok-clause-locked
returns-in-Ok-clause-locked g c = λ is fresh.
    let old = c.args.self.now in
    let mid = c.lock.new.self in
    let new = c.answer_locked.new.self in
    subst (λ (rows : HostRows). AreCorrectedBoth old.rows rows new.rows old.cells new.cells c.args.request.now c.args.steps.now c.answer_locked.new.steps) c.lock.ensures.rows
    (record {
      cells = mid.cells;
      reads = c.lock.new.steps;
      locks = c.lock.ensures.corrected is c.in-Ok.ensures.ok;
      locks_cheap = c.lock.ensures.cheap is c.in-Ok.ensures.ok;
      asks = c.answer_locked.ensures.corrected fresh;
      asks_cheap = c.answer_locked.ensures.cheap fresh;
    })
