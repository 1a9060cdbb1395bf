use Rattle.std.proofs.Common.{◌≡◌, ◌∙◌, ◌⊎◌, true, true≢false, inl, ap, refl, rules, sym}
use Rattle.season_book.specs.Verdict.{pass}
use Rattle.season_host.specs.Accepted.{locks_more}
use Rattle.season_keeping.specs.Housed.{Housed}
use Rattle.season_running.specs.Standing.{passed}
use Rattle.season_keeping.proofs.Counting.{cheap_at, corrected_at}
use Rattle.season_keeping.proofs.Locking.{host_stays, locked_leads, locked_stops, stays_of, unlocked_leads}
use Rattle.season_keeping.proofs.Wanting.{wanting_leads}
use Rattle.season_keeping.proofs.host.Host.lock.Goals as goal

pub returns-then-passed-clause-locked : goal.returns-then-passed-clause-locked
returns-then-passed-clause-locked g c =
    let mid : Housed = record { rows = c.pass-passed.new.house; cells = c.pass-passed.new.cells; stale = c.self.inside.stale; reread = c.self.inside.reread } in
    locked_leads c.books_are_early.ensures.moment c.books_are_in_order.ensures.moment c.items_stay.ensures.lock _ g.K.Keeper.tells g.K.Keeper.serves g.K.Keeper.holds g.K.Keeper.passes
    c.args.keeper.now c.commit.new.keeper c.args.self.now mid c.commit.new.self c.args.now (c.pass-passed.ensures.rows ∙ ap (λ (h : Housed). passed c.args.now h.rows) c.self.view_is)
    c.locks_keep_records.ensures.keep c.rows_tell_records.ensures.tell c.slots_tell_items.ensures.look _ c.keeps_order.ensures c.commit.result c.commit.ensures.commits

pub returns-then-passed-clause-stops : goal.returns-then-passed-clause-stops
returns-then-passed-clause-stops g c =
    let mid : Housed = record { rows = c.pass-passed.new.house; cells = c.pass-passed.new.cells; stale = c.self.inside.stale; reread = c.self.inside.reread } in
    locked_stops c.books_are_early.ensures.moment c.books_are_in_order.ensures.moment c.items_stay.ensures.lock _ g.K.Keeper.tells g.K.Keeper.serves g.K.Keeper.holds g.K.Keeper.passes
    c.args.keeper.now c.commit.new.keeper c.args.self.now mid c.commit.new.self c.args.now (c.pass-passed.ensures.rows ∙ ap (λ (h : Housed). passed c.args.now h.rows) c.self.view_is)
    c.locks_keep_records.ensures.keep c.rows_tell_records.ensures.tell c.slots_tell_items.ensures.look _ c.keeps_order.ensures c.commit.result c.commit.ensures.commits c.requires.fresh

pub returns-else-passed-clause-locked : goal.returns-else-passed-clause-locked
returns-else-passed-clause-locked g c =
    let mid : Housed = record { rows = c.pass-passed.new.house; cells = c.pass-passed.new.cells; stale = c.self.inside.stale; reread = c.self.inside.reread } in
    unlocked_leads c.books_are_early.ensures.moment c.books_are_in_order.ensures.moment c.items_stay.ensures.lock _ g.K.Keeper.tells g.K.Keeper.serves g.K.Keeper.holds g.K.Keeper.passes
    c.args.keeper.now c.args.keeper.now c.args.self.now mid mid c.args.now (c.pass-passed.ensures.rows ∙ ap (λ (h : Housed). passed c.args.now h.rows) c.self.view_is)
    refl (sym (ap (λ (h : Housed). h.stale) c.self.view_is))
    (stays_of c.locks_keep_records.ensures.none c.args.self.now.rows c.args.now
    (ap (λ (h : Housed). locks_more h.rows.facts c.args.now) (sym c.self.view_is) ∙ sym c.pass-passed.ensures.more ∙ c.if-passed.false))

pub returns-then-not-passed-clause-locked : goal.returns-then-not-passed-clause-locked
returns-then-not-passed-clause-locked g c = λ book stands.
    let new : Housed = record { rows = c.pass-passed.new.house; cells = c.pass-passed.new.cells; stale = true; reread = c.self.inside.reread } in
    wanting_leads _ g.K.Keeper.tells g.K.Keeper.serves g.K.Keeper.holds g.K.Keeper.passes c.args.keeper.now c.args.self.now new refl book
    (λ left. (left ≡ book) ⊎ (left ≡ pass book c.args.now)) (inl refl)

pub returns-else-passed-clause-rests : goal.returns-else-passed-clause-rests
returns-else-passed-clause-rests g c = λ is.
    let inside : Housed = record { rows = c.self.inside.house; cells = c.self.inside.cells; stale = c.self.inside.stale; reread = c.self.inside.reread } in (
      host_stays c.locks_keep_records.ensures.none inside c.args.self.now c.pass-passed.new.house c.pass-passed.new.cells c.args.now c.self.view_is
          c.pass-passed.ensures.rows (c.pass-passed.ensures.stays c.if-passed.false) is,
      refl,
    )

pub returns-then-passed-clause-rests : goal.returns-then-passed-clause-rests
returns-then-passed-clause-rests g c = λ is.
    absurd (true≢false (sym c.if-passed.true ∙ c.pass-passed.ensures.more ∙ ap (λ (h : Housed). locks_more h.rows.facts c.args.now) c.self.view_is ∙ is))

pub returns-then-passed-clause-corrected : goal.returns-then-passed-clause-corrected
returns-then-passed-clause-corrected g c = λ is fresh.
    let inside : Housed = record { rows = c.self.inside.house; cells = c.self.inside.cells; stale = c.self.inside.stale; reread = c.self.inside.reread } in
    corrected_at inside c.args.self.now c.pass-passed.new.house c.commit.new.self.rows c.pass-passed.new.cells c.commit.new.self.cells c.self.view_is
    c.commit.ensures.commits.rows c.commit.ensures.cells (c.pass-passed.ensures.corrected c.if-passed.true (search rules))

pub returns-then-passed-clause-cheap : goal.returns-then-passed-clause-cheap
returns-then-passed-clause-cheap g c = λ is fresh.
    let inside : Housed = record { rows = c.self.inside.house; cells = c.self.inside.cells; stale = c.self.inside.stale; reread = c.self.inside.reread } in
    cheap_at inside c.args.self.now c.pass-passed.new.house c.commit.new.self.rows c.args.steps.now c.pass-passed.new.steps c.self.view_is
    c.commit.ensures.commits.rows (c.pass-passed.ensures.cheap c.if-passed.true (search rules))
