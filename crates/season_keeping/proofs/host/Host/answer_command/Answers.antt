use Rattle.std.proofs.Common.{◌∙◌, ◌==◌, true, List, length, ap, refl, subst, sym}
use Rattle.season_records.specs.declared.slot.Slot.{Slot}
use Rattle.season_book.specs.Book.{Book}
use Rattle.season_book.specs.Doing.{IsOutLate}
use Rattle.season_book.specs.Verdict.{Failures}
use Rattle.season_book.specs.declared.answer.Answer.{Answer}
use Rattle.season_book.specs.declared.answer.Answer.TheVariants as answer
use Rattle.season_book.specs.declared.request.Request.TheVariants as request
use Rattle.season_keeping.specs.Answering.{IsCaused, MayEnd}
use Rattle.season_keeping.specs.Housed.{Housed}
use Rattle.season_running.specs.Standing.{HostRows, StandsIn}
use Rattle.season_keeping.proofs.Acting.{acted_leads, acted_stops, acts, after_rests, followed, granted_where, none_of, rest_leads, some_of}
use Rattle.season_keeping.proofs.Committing.{commits_at}
use Rattle.season_keeping.proofs.Counting.{acts_never_rest}
use Rattle.season_keeping.proofs.Ending.{caused_fault, caused_storeless, end_of_fault, end_of_may, fails_by, late_fault, ok_is}
use Rattle.season_keeping.proofs.Leading.{is_fresh}
use Rattle.season_keeping.proofs.Wanting.{wanting_ends, wanting_leads}
use Rattle.season_keeping.proofs.host.Host.answer_command.Goals as goal

pub returns-then-is_empty-clause-answered : goal.returns-then-is_empty-clause-answered
returns-then-is_empty-clause-answered g c = λ book stands.
    let old = c.args.self.now in
    let mid : Housed = record { rows = c.answer_command-answered.new.house; cells = c.answer_command-answered.new.cells; stale = c.self.inside.stale; reread = c.self.inside.reread } in
    let caller = c.args.caller.now in
    let command = c.args.command.now in
    let slots = c.answer_command-answered.result.slots.items in
    let reply = c.answer_command-answered.result.answer in
    let led = followed c.self.inside.house old.rows mid.rows caller c.args.now c.args.number command reply slots (ap (λ (h : Housed). h.rows) c.self.view_is)
    c.answer_command-answered.ensures.answered book stands in
    let failures : Failures = record { before = g.K.Keeper.faults c.args.keeper.now; behind = g.K.Keeper.faults c.args.keeper.now } in
    let asked = request.Command c.args.number command in
    let none = none_of slots (c.if-is_empty.ensures ∙ ap (λ (s : List Slot). length s == 0) c.as_slice.ensures.value) in
    rest_leads _ g.K.Keeper.tells g.K.Keeper.serves g.K.Keeper.holds g.K.Keeper.passes c.args.keeper.now old mid
    (sym (ap (λ (h : Housed). h.stale) c.self.view_is))
    book led.0 (after_rests old.rows.operator book caller c.args.now c.args.number command slots led.0 led.2.1 none) led.1
    (λ left. MayEnd old.rows.operator failures book caller c.args.now asked reply left)
    (end_of_may old.rows.operator failures book caller c.args.now asked reply led.0 led.2.0)

pub returns-in-Ok-clause-answered : goal.returns-in-Ok-clause-answered
returns-in-Ok-clause-answered g c = λ book stands.
    let old = c.args.self.now in
    let mid : Housed = record { rows = c.answer_command-answered.new.house; cells = c.answer_command-answered.new.cells; stale = c.self.inside.stale; reread = c.self.inside.reread } in
    let caller = c.args.caller.now in
    let command = c.args.command.now in
    let slots = c.answer_command-answered.result.slots.items in
    let reply = c.answer_command-answered.result.answer in
    let led = followed c.self.inside.house old.rows mid.rows caller c.args.now c.args.number command reply slots (ap (λ (h : Housed). h.rows) c.self.view_is)
    c.answer_command-answered.ensures.answered book stands in
    let failures : Failures = record { before = g.K.Keeper.faults c.args.keeper.now; behind = g.K.Keeper.faults c.commit.new.keeper } in
    let asked = request.Command c.args.number command in
    acted_leads c.commands_keep_records.ensures c.books_are_early.ensures.verdict c.books_are_in_order.ensures.verdict c.items_stay.ensures.command c.rows_tell_records.ensures.tell c.slots_tell_items.ensures.look
    _ _ g.K.Keeper.tells g.K.Keeper.serves g.K.Keeper.holds g.K.Keeper.passes c.args.keeper.now c.commit.new.keeper old mid c.commit.new.self
    old.rows.operator caller c.args.now c.args.number command slots reply c.keeps_order.ensures (some_of slots (c.if-is_empty.ensures ∙ ap (λ (s : List Slot). length s == 0) c.as_slice.ensures.value)) _ (commits_at _ _ g.K.Keeper.tells g.K.Keeper.serves g.K.Keeper.holds g.K.Keeper.passes c.args.keeper.now c.commit.new.keeper c.deref.result.now slots mid c.commit.new.self _ c.deref.ensures.value c.in-Ok.ensures.commits)
    book led.0 led.1 led.2
    (λ left. MayEnd old.rows.operator failures book caller c.args.now asked reply left)
    (λ left is. subst (λ (b : Book). MayEnd old.rows.operator failures book caller c.args.now asked reply b) (sym is)
    (end_of_may old.rows.operator failures book caller c.args.now asked reply led.0 led.2.0))

pub returns-in-Err-clause-answered : goal.returns-in-Err-clause-answered
returns-in-Err-clause-answered g c = λ book stands.
    let old = c.args.self.now in
    let mid : Housed = record { rows = c.answer_command-answered.new.house; cells = c.answer_command-answered.new.cells; stale = c.self.inside.stale; reread = c.self.inside.reread } in
    let caller = c.args.caller.now in
    let command = c.args.command.now in
    let slots = c.answer_command-answered.result.slots.items in
    let reply = c.answer_command-answered.result.answer in
    let led = followed c.self.inside.house old.rows mid.rows caller c.args.now c.args.number command reply slots (ap (λ (h : Housed). h.rows) c.self.view_is)
    c.answer_command-answered.ensures.answered book stands in
    let failures : Failures = record { before = g.K.Keeper.faults c.args.keeper.now; behind = g.K.Keeper.faults c.commit.new.keeper } in
    let asked = request.Command c.args.number command in
    let fails = fails_by c.commit.result c.in-Err.fault (g.K.Keeper.faults c.args.keeper.now) (g.K.Keeper.faults c.commit.new.keeper) c.in-Err.is c.commit.ensures.cause in
    acted_leads c.commands_keep_records.ensures c.books_are_early.ensures.verdict c.books_are_in_order.ensures.verdict c.items_stay.ensures.command c.rows_tell_records.ensures.tell c.slots_tell_items.ensures.look
    _ _ g.K.Keeper.tells g.K.Keeper.serves g.K.Keeper.holds g.K.Keeper.passes c.args.keeper.now c.commit.new.keeper old mid c.commit.new.self
    old.rows.operator caller c.args.now c.args.number command slots reply c.keeps_order.ensures (some_of slots (c.if-is_empty.ensures ∙ ap (λ (s : List Slot). length s == 0) c.as_slice.ensures.value)) _ (commits_at _ _ g.K.Keeper.tells g.K.Keeper.serves g.K.Keeper.holds g.K.Keeper.passes c.args.keeper.now c.commit.new.keeper c.deref.result.now slots mid c.commit.new.self _ c.deref.ensures.value c.in-Err.ensures.commits)
    book led.0 led.1 led.2
    (λ left. MayEnd old.rows.operator failures book caller c.args.now asked c.fault_answer.result left)
    (λ left either. subst (λ (a : Answer). MayEnd old.rows.operator failures book caller c.args.now asked a left) (sym c.fault_answer.ensures)
    (end_of_fault old.rows.operator failures book caller c.args.now asked reply led.0 left c.in-Err.fault fails led.2.0 either))

pub returns-in-Ok-clause-stops : goal.returns-in-Ok-clause-stops
returns-in-Ok-clause-stops g c = λ book stands.
    let old = c.args.self.now in
    let mid : Housed = record { rows = c.answer_command-answered.new.house; cells = c.answer_command-answered.new.cells; stale = c.self.inside.stale; reread = c.self.inside.reread } in
    let caller = c.args.caller.now in
    let command = c.args.command.now in
    let slots = c.answer_command-answered.result.slots.items in
    let reply = c.answer_command-answered.result.answer in
    let led = followed c.self.inside.house old.rows mid.rows caller c.args.now c.args.number command reply slots (ap (λ (h : Housed). h.rows) c.self.view_is)
    c.answer_command-answered.ensures.answered book stands in
    acted_stops c.commands_keep_records.ensures c.books_are_early.ensures.verdict c.books_are_in_order.ensures.verdict c.items_stay.ensures.command c.rows_tell_records.ensures.tell c.slots_tell_items.ensures.look
    _ _ g.K.Keeper.tells g.K.Keeper.serves g.K.Keeper.holds g.K.Keeper.passes c.args.keeper.now c.commit.new.keeper old mid c.commit.new.self
    old.rows.operator caller c.args.now c.args.number command slots reply c.keeps_order.ensures (some_of slots (c.if-is_empty.ensures ∙ ap (λ (s : List Slot). length s == 0) c.as_slice.ensures.value)) _ (commits_at _ _ g.K.Keeper.tells g.K.Keeper.serves g.K.Keeper.holds g.K.Keeper.passes c.args.keeper.now c.commit.new.keeper c.deref.result.now slots mid c.commit.new.self _ c.deref.ensures.value c.in-Ok.ensures.commits)
    book led.0 led.1 led.2 c.requires.fresh

pub returns-in-Err-clause-stops : goal.returns-in-Err-clause-stops
returns-in-Err-clause-stops g c = λ book stands.
    let old = c.args.self.now in
    let mid : Housed = record { rows = c.answer_command-answered.new.house; cells = c.answer_command-answered.new.cells; stale = c.self.inside.stale; reread = c.self.inside.reread } in
    let caller = c.args.caller.now in
    let command = c.args.command.now in
    let slots = c.answer_command-answered.result.slots.items in
    let reply = c.answer_command-answered.result.answer in
    let led = followed c.self.inside.house old.rows mid.rows caller c.args.now c.args.number command reply slots (ap (λ (h : Housed). h.rows) c.self.view_is)
    c.answer_command-answered.ensures.answered book stands in
    acted_stops c.commands_keep_records.ensures c.books_are_early.ensures.verdict c.books_are_in_order.ensures.verdict c.items_stay.ensures.command c.rows_tell_records.ensures.tell c.slots_tell_items.ensures.look
    _ _ g.K.Keeper.tells g.K.Keeper.serves g.K.Keeper.holds g.K.Keeper.passes c.args.keeper.now c.commit.new.keeper old mid c.commit.new.self
    old.rows.operator caller c.args.now c.args.number command slots reply c.keeps_order.ensures (some_of slots (c.if-is_empty.ensures ∙ ap (λ (s : List Slot). length s == 0) c.as_slice.ensures.value)) _ (commits_at _ _ g.K.Keeper.tells g.K.Keeper.serves g.K.Keeper.holds g.K.Keeper.passes c.args.keeper.now c.commit.new.keeper c.deref.result.now slots mid c.commit.new.self _ c.deref.ensures.value c.in-Err.ensures.commits)
    book led.0 led.1 led.2 c.requires.fresh

pub returns-in-Err-clause-acts : goal.returns-in-Err-clause-acts
returns-in-Err-clause-acts g c = λ is book stands.
    let old = c.args.self.now in
    let mid : Housed = record { rows = c.answer_command-answered.new.house; cells = c.answer_command-answered.new.cells; stale = c.self.inside.stale; reread = c.self.inside.reread } in
    let caller = c.args.caller.now in
    let command = c.args.command.now in
    let slots = c.answer_command-answered.result.slots.items in
    let reply = c.answer_command-answered.result.answer in
    let led = followed c.self.inside.house old.rows mid.rows caller c.args.now c.args.number command reply slots (ap (λ (h : Housed). h.rows) c.self.view_is)
    c.answer_command-answered.ensures.answered book stands in
    acts c.commands_keep_records.ensures c.books_are_early.ensures.verdict c.books_are_in_order.ensures.verdict c.items_stay.ensures.command c.rows_tell_records.ensures.tell c.slots_tell_items.ensures.look
    _ _ g.K.Keeper.tells g.K.Keeper.serves g.K.Keeper.holds g.K.Keeper.passes c.args.keeper.now c.commit.new.keeper old mid c.commit.new.self
    old.rows.operator caller c.args.now c.args.number command slots reply c.keeps_order.ensures (some_of slots (c.if-is_empty.ensures ∙ ap (λ (s : List Slot). length s == 0) c.as_slice.ensures.value)) _ (commits_at _ _ g.K.Keeper.tells g.K.Keeper.serves g.K.Keeper.holds g.K.Keeper.passes c.args.keeper.now c.commit.new.keeper c.deref.result.now slots mid c.commit.new.self _ c.deref.ensures.value c.in-Err.ensures.commits)
    book led.0 led.1 led.2

pub returns-then-is_empty-clause-caused : goal.returns-then-is_empty-clause-caused
returns-then-is_empty-clause-caused g c =
    caused_storeless (record { before = g.K.Keeper.faults c.args.keeper.now; behind = g.K.Keeper.faults c.args.keeper.now }) c.answer_command-answered.result.answer c.answer_command-answered.ensures.storeless refl

pub returns-in-Ok-clause-caused : goal.returns-in-Ok-clause-caused
returns-in-Ok-clause-caused g c =
    caused_storeless (record { before = g.K.Keeper.faults c.args.keeper.now; behind = g.K.Keeper.faults c.commit.new.keeper }) c.answer_command-answered.result.answer c.answer_command-answered.ensures.storeless
    (ok_is c.commit.result _ c.in-Ok.is c.commit.ensures.cause.ok)

pub returns-in-Err-clause-caused : goal.returns-in-Err-clause-caused
returns-in-Err-clause-caused g c =
    let failures : Failures = record { before = g.K.Keeper.faults c.args.keeper.now; behind = g.K.Keeper.faults c.commit.new.keeper } in
    subst (λ (a : Answer). IsCaused failures a) (sym c.fault_answer.ensures)
    (caused_fault c.commit.result c.in-Err.fault (g.K.Keeper.faults c.args.keeper.now) (g.K.Keeper.faults c.commit.new.keeper) c.in-Err.is c.commit.ensures.cause)

pub returns-then-not-answered-clause-answered : goal.returns-then-not-answered-clause-answered
returns-then-not-answered-clause-answered g c = λ book stands.
    let old = c.args.self.now in
    let new : Housed = record { rows = c.answer_command-answered.new.house; cells = c.answer_command-answered.new.cells; stale = true; reread = c.self.inside.reread } in
    let failures : Failures = record { before = g.K.Keeper.faults c.args.keeper.now; behind = g.K.Keeper.faults c.args.keeper.now } in
    let asked = request.Command c.args.number c.args.command.now in
    wanting_leads _ g.K.Keeper.tells g.K.Keeper.serves g.K.Keeper.holds g.K.Keeper.passes c.args.keeper.now old new refl book
    (λ left. MayEnd old.rows.operator failures book c.args.caller.now c.args.now asked answer.Memory left)
    (wanting_ends old.rows.operator failures book c.args.caller.now c.args.now asked)

pub returns-in-Err-clause-late : goal.returns-in-Err-clause-late
returns-in-Err-clause-late g c = λ book stands.
    let old = c.args.self.now in
    let caller = c.args.caller.now in
    let command = c.args.command.now in
    let slots = c.answer_command-answered.result.slots.items in
    let led = followed c.self.inside.house old.rows c.answer_command-answered.new.house caller c.args.now c.args.number command c.answer_command-answered.result.answer slots (ap (λ (h : Housed). h.rows) c.self.view_is)
    c.answer_command-answered.ensures.answered book stands in
    let asked = request.Command c.args.number command in
    subst (λ (a : Answer). IsOutLate old.rows.operator book caller c.args.now asked a) (sym c.fault_answer.ensures)
    (late_fault old.rows.operator book caller c.args.now asked c.in-Err.fault
    (granted_where old.rows.operator book caller c.args.now c.args.number command slots led.0 led.2.1
    (some_of slots (c.if-is_empty.ensures ∙ ap (λ (s : List Slot). length s == 0) c.as_slice.ensures.value))))

pub returns-then-not-answered-clause-late : goal.returns-then-not-answered-clause-late
returns-then-not-answered-clause-late g c = λ book stands.
    let old = c.args.self.now in
    let caller = c.args.caller.now in
    let command = c.args.command.now in
    let slots = c.answer_command-answered.result.slots.items in
    let led = followed c.self.inside.house old.rows c.answer_command-answered.new.house caller c.args.now c.args.number command c.answer_command-answered.result.answer slots (ap (λ (h : Housed). h.rows) c.self.view_is)
    c.answer_command-answered.ensures.answered book stands in
    granted_where old.rows.operator book caller c.args.now c.args.number command slots led.0 led.2.1
    (λ none. is_fresh c.answer_command-answered.result.followed
    (c.answer_command-answered.ensures.granted book (subst (λ (rows : HostRows). StandsIn rows book) (sym (ap (λ (h : Housed). h.rows) c.self.view_is)) stands) none) c.if-not-answered.true)

pub returns-in-Ok-clause-refused : goal.returns-in-Ok-clause-refused
returns-in-Ok-clause-refused g c = λ some book stands rest.
    let old = c.args.self.now in
    let mid : Housed = record { rows = c.answer_command-answered.new.house; cells = c.answer_command-answered.new.cells; stale = c.self.inside.stale; reread = c.self.inside.reread } in
    let caller = c.args.caller.now in
    let command = c.args.command.now in
    let slots = c.answer_command-answered.result.slots.items in
    let reply = c.answer_command-answered.result.answer in
    let led = followed c.self.inside.house old.rows mid.rows caller c.args.now c.args.number command reply slots (ap (λ (h : Housed). h.rows) c.self.view_is)
    c.answer_command-answered.ensures.answered book stands in
    acts_never_rest old.rows.operator book caller c.args.now (request.Command c.args.number command)
    (acts c.commands_keep_records.ensures c.books_are_early.ensures.verdict c.books_are_in_order.ensures.verdict c.items_stay.ensures.command c.rows_tell_records.ensures.tell c.slots_tell_items.ensures.look
    _ _ g.K.Keeper.tells g.K.Keeper.serves g.K.Keeper.holds g.K.Keeper.passes c.args.keeper.now c.commit.new.keeper old mid c.commit.new.self
    old.rows.operator caller c.args.now c.args.number command slots reply c.keeps_order.ensures (some_of slots (c.if-is_empty.ensures ∙ ap (λ (s : List Slot). length s == 0) c.as_slice.ensures.value)) _ (commits_at _ _ g.K.Keeper.tells g.K.Keeper.serves g.K.Keeper.holds g.K.Keeper.passes c.args.keeper.now c.commit.new.keeper c.deref.result.now slots mid c.commit.new.self _ c.deref.ensures.value c.in-Ok.ensures.commits)
    book led.0 led.1 led.2) rest

pub returns-in-Err-clause-refused : goal.returns-in-Err-clause-refused
returns-in-Err-clause-refused g c = λ some book stands rest.
    let old = c.args.self.now in
    let mid : Housed = record { rows = c.answer_command-answered.new.house; cells = c.answer_command-answered.new.cells; stale = c.self.inside.stale; reread = c.self.inside.reread } in
    let caller = c.args.caller.now in
    let command = c.args.command.now in
    let slots = c.answer_command-answered.result.slots.items in
    let reply = c.answer_command-answered.result.answer in
    let led = followed c.self.inside.house old.rows mid.rows caller c.args.now c.args.number command reply slots (ap (λ (h : Housed). h.rows) c.self.view_is)
    c.answer_command-answered.ensures.answered book stands in
    acts_never_rest old.rows.operator book caller c.args.now (request.Command c.args.number command)
    (acts c.commands_keep_records.ensures c.books_are_early.ensures.verdict c.books_are_in_order.ensures.verdict c.items_stay.ensures.command c.rows_tell_records.ensures.tell c.slots_tell_items.ensures.look
    _ _ g.K.Keeper.tells g.K.Keeper.serves g.K.Keeper.holds g.K.Keeper.passes c.args.keeper.now c.commit.new.keeper old mid c.commit.new.self
    old.rows.operator caller c.args.now c.args.number command slots reply c.keeps_order.ensures (some_of slots (c.if-is_empty.ensures ∙ ap (λ (s : List Slot). length s == 0) c.as_slice.ensures.value)) _ (commits_at _ _ g.K.Keeper.tells g.K.Keeper.serves g.K.Keeper.holds g.K.Keeper.passes c.args.keeper.now c.commit.new.keeper c.deref.result.now slots mid c.commit.new.self _ c.deref.ensures.value c.in-Err.ensures.commits)
    book led.0 led.1 led.2) rest

pub returns-then-is_empty-clause-refused : goal.returns-then-is_empty-clause-refused
returns-then-is_empty-clause-refused g c = λ some book stands rest.
    let slots = c.answer_command-answered.result.slots.items in
    let none = none_of slots (c.if-is_empty.ensures ∙ ap (λ (s : List Slot). length s == 0) c.as_slice.ensures.value) in
    c.answer_command-answered.ensures.refused book (subst (λ (rows : HostRows). StandsIn rows book) (sym (ap (λ (h : Housed). h.rows) c.self.view_is)) stands) none some
