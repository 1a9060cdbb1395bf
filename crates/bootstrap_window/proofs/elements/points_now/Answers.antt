use Rattle.std.proofs.Common.{◌≡◌, ◌∙◌, ◌==◌, ◌&&◌, ◌<◌, ℕ, pos, true, false, nat_le, arith, ap, rules, sym, subst, eq-eqb, to_z, of_z, w32, if◌then◌else◌}
use Rattle.std.specs.Prelude.{IfSome}
use Rattle.std.proofs.lemmas.Bool.Decides.{nat_tests}
use Rattle.rule_book.specs.declared.team_score.Figures.{Figures}
use Rattle.rule_book.specs.Calendar.{CalendarFacts}
use Rattle.rule_book.specs.PlayerFigures.{figures_in}
use Rattle.season_views.specs.Cells.{books_seen}
use Rattle.bootstrap_window.proofs.elements.points_now.Goals as goal

some_locked : (n : ℕ) → 0 < n → (n == 0) ≡ false
some_locked n some = grind (arith, nat_tests, some)

live_test : (n : ℕ) → 0 < n → (nat_le 1 n && nat_le n n) ≡ true
live_test n some = grind (arith, nat_tests, some)

pub returns-then-locked-eq0-clause-value : goal.returns-then-locked-eq0-clause-value
returns-then-locked-eq0-clause-value g c =
    let facts = c.args.seen.now.facts in
    let same : c.locked-locked.result ≡ facts.calendar.locked = c.locked-locked.ensures.value ∙ ap (λ (those : CalendarFacts). those.locked) c.calendar.ensures in
    let none : (facts.calendar.locked == 0) ≡ true = eq-eqb facts.calendar.locked 0 (omega (arith, same, c.if-locked-eq0.true)) in
    sym (ap (λ b. if b then pos 0 else (figures_in facts.profile facts.calendar facts.players facts.matches c.args.player facts.calendar.locked).points) none)

pub returns-clause-value : goal.returns-clause-value
returns-clause-value g c =
    let seen = c.args.seen.now in
    let facts = seen.facts in
    let locked = facts.calendar.locked in
    let player = c.args.player in
    let figures : ℕ → Figures = figures_in facts.profile facts.calendar facts.players facts.matches player in
    let same : c.locked-locked.result ≡ locked = c.locked-locked.ensures.value ∙ ap (λ (those : CalendarFacts). those.locked) c.calendar.ensures in
    let is : c.unwrap-gameweek.result ≡ c.locked-locked.result = subst (λ o. IfSome o (λ n. n ≡ c.locked-locked.result)) c.unwrap-gameweek.ensures c.new.ensures.value in
    let some : 0 < locked = omega (arith, same, c.if-locked-eq0.false) in
    let live = ap (λ b. b && (nat_le 1 c.unwrap-gameweek.result && nat_le c.unwrap-gameweek.result locked)) c.requires.there
    ∙ ap (λ n. nat_le 1 n && nat_le n locked) (is ∙ same) ∙ live_test locked some in
    let held = c.gameweek_held.ensures.value (books_seen facts seen.managers seen.leagues seen.cups) c.requires.kept.kept.evaluated live in
    let plain : to_z w32 (of_z w32 c.gameweek_held.result.points) ≡ c.gameweek_held.result.points = search rules in
    plain ∙ ap (λ (f : Figures). f.points) held ∙ ap (λ n. (figures n).points) (is ∙ same) ∙ sym (ap (λ b. if b then pos 0 else (figures locked).points) (some_locked locked some))
